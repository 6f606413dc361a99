-- What is written of a greatest budget and of a base period.
use Rattle.std.specs.Prelude.{ℕ, ◌++◌, codes, decimal, flat_map, List, Option, Some, None}
use Rattle.dk_plan.specs.declared.harmonising.Ask.{Ask}
use Rattle.dk_plan.specs.Base.{longest_got, period_got, ticks_in}

abbrev pub number_or_none : Option ℕ → List ℕ
number_or_none (Some n) = decimal n
number_or_none None = codes "none"

abbrev pub budget_text : List ℕ → Option ℕ → List ℕ
budget_text name answer = codes "plan: " ++ (name ++ (codes " " ++ (number_or_none answer ++ codes "\n")))

abbrev pub first_line : ℕ → List ℕ
first_line base = codes "base " ++ (decimal base ++ codes "\n")

-- what an ask gets with the base
abbrev pub ask_line : ℕ → Ask → List ℕ
ask_line base ask = codes "period "
    ++ (decimal ask.period
    ++ (codes " budget "
    ++ (decimal ask.budget ++ (codes " gets " ++ (decimal (period_got base ask.period) ++ codes "\n")))))

-- the part of the processor that the asks take, in ticks of the greatest period that one gets
abbrev pub utilisation_line : ℕ → ℕ → List ℕ
utilisation_line ticks longest = codes "utilisation "
    ++ (decimal ticks ++ (codes " of " ++ (decimal longest ++ codes "\n")))

abbrev pub last_line : ℕ → List Ask → List ℕ
last_line base asks = utilisation_line (ticks_in base (longest_got base asks) asks) (longest_got base asks)

abbrev pub base_text : ℕ → List Ask → List ℕ
base_text base asks = first_line base ++ (flat_map (ask_line base) asks ++ last_line base asks)
