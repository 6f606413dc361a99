-- What is asked has few ticks, and its asks fit.
use Rattle.dk_request.proofs.Names.{ℕ, ◌≡◌, ◌≤◌, Bool, true, false, List, refl, subst, sym, arith, and_parts, nat_tests, nat_le, None, IfOk, IfSome, Result, Ok, Err, option_map, if◌then◌else◌, digits_value, MAX_RUN_TICKS, MAX_SPAN, is_numeral, Ask, Command, Output, Request, are_asks, asks_in, bound_in, gen_by, harmonise_by, number_in, output_of, request_of, ticks_in, word_at, HasFewTicks, HasFitAsks}
use Rattle.std.specs.Prelude.{◌&&◌, drop, Option, Some}
use Rattle.dk_request.specs.declared.commands.Command.TheVariants as command
use Rattle.dk_request.specs.declared.request.Request.TheVariants as request
use Rattle.dk_request.proofs.AskLemmas.{are_asks_so}

some_if : {A : Type 0} (P : A → Type 0) (b : Bool) (x : A) → (b ≡ true → P x) → IfSome (if b then Some x else None) P
some_if P true x h = h refl
some_if P false x h = tt

number_within : (least most : ℕ) (w : List ℕ) → IfSome (number_in least most w) (λ n. (least ≤ n) × (n ≤ most))
number_within least most w =
    some_if (λ (n : ℕ). (least ≤ n) × (n ≤ most)) (is_numeral w && (nat_le least (digits_value 10 w) && nat_le (digits_value 10 w) most)) (digits_value 10 w) (λ e.
    (let both = and_parts (is_numeral w) (nat_le least (digits_value 10 w) && nat_le (digits_value 10 w) most) e in
    let range = and_parts (nat_le least (digits_value 10 w)) (nat_le (digits_value 10 w) most) both.1 in
    let low : nat_le least (digits_value 10 w) ≡ true = range.0 in
    let high : nat_le (digits_value 10 w) most ≡ true = range.1 in
    (grind (arith, nat_tests), grind (arith, nat_tests))))

few_run : (file : List ℕ) (output : Output) (o : Option ℕ) → IfSome o (λ n. (0 ≤ n) × (n ≤ MAX_RUN_TICKS)) → IfSome (option_map (λ ticks. request.Run file ticks output) o) HasFewTicks
few_run file output None h = tt
few_run file output (Some n) h = h.1

few_seen : (file : List ℕ) (o : Option ℕ) → IfSome o (λ n. (0 ≤ n) × (n ≤ MAX_RUN_TICKS)) → IfSome (option_map (λ tick. request.Inspect file tick) o) HasFewTicks
few_seen file None h = tt
few_seen file (Some n) h = h.1

few_made : (p o : Option ℕ) → IfSome o (λ n. (0 ≤ n) × (n ≤ MAX_RUN_TICKS)) → IfSome (gen_by p o) HasFewTicks
few_made None o h = tt
few_made (Some m) None h = tt
few_made (Some m) (Some n) h = h.1

few_base : (o p : Option ℕ) (q : Option (List Ask)) → IfSome (harmonise_by o p q) HasFewTicks
few_base None p q = tt
few_base (Some lo) None q = tt
few_base (Some lo) (Some hi) None = tt
few_base (Some lo) (Some hi) (Some asks) = some_if HasFewTicks (nat_le lo hi && are_asks hi asks) (request.Harmonise lo hi asks) (λ e. tt)

few_ticks : (c : Command) (ws : List (List ℕ)) (report : Bool) → IfSome (request_of c ws report) HasFewTicks
few_ticks command.Run ws report = few_run (word_at ws 0) (output_of report) (ticks_in (word_at ws 1)) (number_within 0 MAX_RUN_TICKS (word_at ws 1))
few_ticks command.Certify ws report = tt
few_ticks command.Gen ws report = few_made (number_in 0 18446744073709551615 (word_at ws 0)) (ticks_in (word_at ws 1)) (number_within 0 MAX_RUN_TICKS (word_at ws 1))
few_ticks command.Ledger ws report = tt
few_ticks command.Migrate ws report = tt
few_ticks command.Asm ws report = tt
few_ticks command.Dis ws report = tt
few_ticks command.Audit ws report = tt
few_ticks command.Plan ws report = tt
few_ticks command.Harmonise ws report = few_base (bound_in (word_at ws 0)) (bound_in (word_at ws 1)) (asks_in (drop 2 ws))
few_ticks command.Inspect ws report = few_seen (word_at ws 0) (ticks_in (word_at ws 1)) (number_within 0 MAX_RUN_TICKS (word_at ws 1))

fit_run : (file : List ℕ) (output : Output) (o : Option ℕ) → IfSome (option_map (λ ticks. request.Run file ticks output) o) HasFitAsks
fit_run file output None = tt
fit_run file output (Some n) = tt

fit_seen : (file : List ℕ) (o : Option ℕ) → IfSome (option_map (λ tick. request.Inspect file tick) o) HasFitAsks
fit_seen file None = tt
fit_seen file (Some n) = tt

fit_made : (p o : Option ℕ) → IfSome (gen_by p o) HasFitAsks
fit_made None o = tt
fit_made (Some m) None = tt
fit_made (Some m) (Some n) = tt

fit_base : (o p : Option ℕ) (q : Option (List Ask)) → IfSome o (λ n. (1 ≤ n) × (n ≤ MAX_SPAN)) → IfSome (harmonise_by o p q) HasFitAsks
fit_base None p q h = tt
fit_base (Some lo) None q h = tt
fit_base (Some lo) (Some hi) None h = tt
fit_base (Some lo) (Some hi) (Some asks) h = some_if HasFitAsks (nat_le lo hi && are_asks hi asks) (request.Harmonise lo hi asks) (λ e.
    (let both = and_parts (nat_le lo hi) (are_asks hi asks) e in
    let ordered : nat_le lo hi ≡ true = both.0 in
    (h.0, grind (arith, nat_tests), are_asks_so hi asks both.1)))

fit_asks : (c : Command) (ws : List (List ℕ)) (report : Bool) → IfSome (request_of c ws report) HasFitAsks
fit_asks command.Run ws report = fit_run (word_at ws 0) (output_of report) (ticks_in (word_at ws 1))
fit_asks command.Certify ws report = tt
fit_asks command.Gen ws report = fit_made (number_in 0 18446744073709551615 (word_at ws 0)) (ticks_in (word_at ws 1))
fit_asks command.Ledger ws report = tt
fit_asks command.Migrate ws report = tt
fit_asks command.Asm ws report = tt
fit_asks command.Dis ws report = tt
fit_asks command.Audit ws report = tt
fit_asks command.Plan ws report = tt
fit_asks command.Harmonise ws report = fit_base (bound_in (word_at ws 0)) (bound_in (word_at ws 1)) (asks_in (drop 2 ws)) (number_within 1 MAX_SPAN (word_at ws 0))
fit_asks command.Inspect ws report = fit_seen (word_at ws 0) (ticks_in (word_at ws 1))

-- so is what a command is asked
asked : (P : Request → Type 0) → ((c : Command) (ws : List (List ℕ)) (report : Bool) → IfSome (request_of c ws report) P)
    → {E : Type 0} (r : Result (Option Request) E) (c : Command) (ws : List (List ℕ)) (report : Bool)
    → IfOk r (λ o. o ≡ request_of c ws report) → IfOk r (λ o. IfSome o P)
asked P each (Ok o) c ws report is = subst (λ x. IfSome x P) (sym is) (each c ws report)
asked P each (Err e) c ws report is = tt

pub few_asked : {E : Type 0} (r : Result (Option Request) E) (c : Command) (ws : List (List ℕ)) (report : Bool)
    → IfOk r (λ o. o ≡ request_of c ws report) → IfOk r (λ o. IfSome o HasFewTicks)
few_asked = asked HasFewTicks few_ticks

pub fit_asked : {E : Type 0} (r : Result (Option Request) E) (c : Command) (ws : List (List ℕ)) (report : Bool)
    → IfOk r (λ o. o ≡ request_of c ws report) → IfOk r (λ o. IfSome o HasFitAsks)
fit_asked = asked HasFitAsks fit_asks
