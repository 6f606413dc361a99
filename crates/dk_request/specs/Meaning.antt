-- What the words mean.
use Rattle.std.specs.Prelude.{ℕ, ◌≡◌, ◌≤◌, ◌==◌, ◌&&◌, Bool, false, true, drop, length, nat_lt, nat_le, slice_get, unwrap_or, option_map, option_and_then, List, [], ◌∷◌, Option, Some, None, if◌then◌else◌}
use Rattle.std.specs.List.{list_all, before_first, after_first}
use Rattle.std.specs.Str.Parse.{digits_value}
use Rattle.dk_config.specs.declared.TheConstants.{MAX_RUN_TICKS, MAX_SPAN}
use Rattle.dk_plan.specs.declared.TheConstants.{MAX_ASKS}
use Rattle.dk_asm.specs.Words.{is_numeral}
use Rattle.dk_request.specs.declared.commands.Command.{Command}
use Rattle.dk_request.specs.declared.commands.Command.TheVariants as command
use Rattle.dk_request.specs.declared.output.Output.{Output}
use Rattle.dk_request.specs.declared.output.Output.TheVariants as asked
use Rattle.dk_request.specs.declared.request.Request.{Request}
use Rattle.dk_request.specs.declared.request.Request.TheVariants as request
use Rattle.dk_plan.specs.declared.harmonising.Ask.{Ask}
use Rattle.dk_plan.specs.Base.{AreAsks}
use Rattle.dk_request.specs.Synopsis.{are_taken, flags, positionals}
use Rattle.dk_request.specs.Commands.{command_named, synopsis_of}

-- the number that the word spells, where it is within these bounds
abbrev pub number_in : ℕ → ℕ → List ℕ → Option ℕ
number_in least most w =
    if is_numeral w && (nat_le least (digits_value 10 w) && nat_le (digits_value 10 w) most)
    then Some (digits_value 10 w)
    else None

-- the ticks of a run
abbrev pub ticks_in : List ℕ → Option ℕ
ticks_in w = number_in 0 MAX_RUN_TICKS w

abbrev pub word_at : List (List ℕ) → ℕ → List ℕ
word_at ps i = unwrap_or (slice_get ps i) []

abbrev pub gen_by : Option ℕ → Option ℕ → Option Request
gen_by (Some number) (Some ticks) = Some (request.Gen number ticks)
gen_by _ _ = None

-- a bound, a period or a budget
abbrev pub bound_in : List ℕ → Option ℕ
bound_in w = number_in 1 MAX_SPAN w

abbrev pub is_colon : ℕ → Bool
is_colon b = b == 58

abbrev pub ask_by : Option ℕ → Option ℕ → Option Ask
ask_by (Some period) (Some budget) = Some (record { period = period; budget = budget })
ask_by _ _ = None

-- PERIOD:BUDGET
abbrev pub ask_in : List ℕ → Option Ask
ask_in w = ask_by (bound_in (before_first is_colon w)) (bound_in (after_first is_colon w))

-- where each word is an ask
abbrev pub asks_in : List (List ℕ) → Option (List Ask)
asks_in [] = Some []
asks_in (w ∷ ws) = option_and_then (λ ask. option_map (λ asks. ask ∷ asks) (asks_in ws)) (ask_in w)

abbrev pub is_ask : ℕ → Ask → Bool
is_ask hi ask = (nat_le hi ask.period && nat_le ask.period MAX_SPAN)
    && (nat_le 1 ask.budget && nat_le ask.budget MAX_SPAN)

-- 1 to 32 asks, of which none has a period below this base
abbrev pub are_asks : ℕ → List Ask → Bool
are_asks hi asks = (nat_le 1 (length asks) && nat_le (length asks) MAX_ASKS) && list_all (is_ask hi) asks

-- the least base is at most the greatest, which is at most each period
abbrev pub harmonise_by : Option ℕ → Option ℕ → Option (List Ask) → Option Request
harmonise_by (Some lo) (Some hi) (Some asks) =
    if nat_le lo hi && are_asks hi asks then Some (request.Harmonise lo hi asks) else None
harmonise_by _ _ _ = None

-- the output that is asked for, by whether --report stands among the words
abbrev pub output_of : Bool → Output
output_of false = asked.Ledger
output_of true = asked.Report

-- what a command is asked, by its arguments and whether --report stands among the words
abbrev pub request_of : Command → List (List ℕ) → Bool → Option Request
request_of command.Run ps report = option_map (λ ticks. request.Run (word_at ps 0) ticks (output_of report))
    (ticks_in (word_at ps 1))
request_of command.Certify ps report = Some (request.Certify (word_at ps 0))
request_of command.Gen ps report = gen_by (number_in 0 18446744073709551615 (word_at ps 0)) (ticks_in (word_at ps 1))
request_of command.Ledger ps report = Some (request.Ledger (word_at ps 0) (output_of report))
request_of command.Migrate ps report = Some (request.Migrate (word_at ps 0))
request_of command.Asm ps report = Some (request.Asm (word_at ps 0))
request_of command.Dis ps report = Some (request.Dis (word_at ps 0))
request_of command.Audit ps report = Some (request.Audit (word_at ps 0) (word_at ps 1))
request_of command.Plan ps report = Some (request.Plan (word_at ps 0) (word_at ps 1))
request_of command.Harmonise ps report = harmonise_by (bound_in (word_at ps 0)) (bound_in (word_at ps 1))
    (asks_in (drop 2 ps))
request_of command.Inspect ps report = option_map (λ tick. request.Inspect (word_at ps 0) tick)
    (ticks_in (word_at ps 1))

-- the command of this word, where its synopsis takes the words after it
unfoldable pub command_by : List ℕ → List (List ℕ) → Option Command
command_by word ws = option_and_then (λ c. if are_taken (synopsis_of c) ws then Some c else None) (command_named word)

abbrev pub command_of : List (List ℕ) → Option Command
command_of words = command_by (word_at words 1) (drop 2 words)

-- what the words ask for
unfoldable pub meaning : List (List ℕ) → Option Request
meaning words =
    option_and_then (λ c. request_of c (positionals (drop 2 words)) (nat_lt 0 (length (flags (drop 2 words)))))
    (command_of words)

-- the words mean nothing
abbrev pub MeansNothing : List (List ℕ) → Type 0
MeansNothing words = meaning words ≡ None

-- a run is of at most 10,000,000 ticks
abbrev pub HasFewTicks : Request → Type 0
HasFewTicks (request.Run file ticks output) = ticks ≤ MAX_RUN_TICKS
HasFewTicks (request.Gen number ticks) = ticks ≤ MAX_RUN_TICKS
HasFewTicks (request.Inspect file tick) = tick ≤ MAX_RUN_TICKS
HasFewTicks _ = Unit {0}

-- what is asked of a base are asks for each base of a range
abbrev pub HasFitAsks : Request → Type 0
HasFitAsks (request.Harmonise lo hi asks) = (1 ≤ lo) × (lo ≤ hi) × AreAsks hi asks
HasFitAsks _ = Unit {0}
