-- What was found says how it goes on for ever.
use Rattle.dk_cycle.proofs.Names.{ℕ, ◌≡◌, List, [], Option, Some, None, refl, subst, IfSome, slice_index_or, Configuration, IsChecked, IsAccepted, KeepsToItself, ProcessStandsAgain, ProcessesRepeat, StandsAgainAsAlone, RunStandsAgain, RunsRepeatForEver, Cycle, IsKeeping, StartsFirst, IsLastReader, HasCycle, IsRunCycle, OwnIsTold, RunIsTold, reader_by, Made, IsLastMade, RepeatsOnlyBehind, made_by, RunsAreAudited}
use Rattle.dk_cycle.proofs.Serials.{only-behind}

run-cycle : (c : Configuration) (programs : List (List ℕ)) (o : Option Cycle) → RunsRepeatForEver → IsChecked c → IsAccepted c
    → IfSome o (λ y. RunStandsAgain c programs y.start y.length) → IfSome o (StartsFirst c programs) → IfSome o (IsRunCycle c programs)
run-cycle c programs None law checked accepted again first = tt
run-cycle c programs (Some y) law checked accepted again first = record {
  stands = again;
  repeats = λ cycles n. law c programs y.start y.length cycles n checked accepted again;
  first = first;
}

own-cycle : (c : Configuration) (programs : List (List ℕ)) (p : ℕ) (o : Option Cycle) → StandsAgainAsAlone → ProcessesRepeat → IsChecked c → IsAccepted c
    → KeepsToItself c p (slice_index_or programs p []) → IfSome o (λ y. ProcessStandsAgain c programs p y.start y.length) → IfSome o (HasCycle c programs p)
own-cycle c programs p None as-alone repeats checked accepted keeps again = tt
own-cycle c programs p (Some y) as-alone repeats checked accepted keeps again = record {
  later = again.later;
  begins = again.begins;
  begins_later = again.begins_later;
  repeats = λ others cycles m n agree begins more.
      repeats c programs others p y.start y.length cycles m n checked accepted keeps agree (as-alone c programs p y.start y.length checked accepted keeps again) begins more;
}

read-last : (c : Configuration) (programs : List (List ℕ)) (tick : ℕ) (o : Option Cycle) (reader : Option ℕ) → IsLastReader c programs tick reader
    → o ≡ None → IsLastReader c programs tick (reader_by o reader)
read-last c programs tick (Some y) reader is none = absurd (cc)
read-last c programs tick None reader is none = is

made-last : (c : Configuration) (programs : List (List ℕ)) (tick : ℕ) (o : Option Cycle) (made : Option Made) → IsLastMade c programs tick made
    → o ≡ None → IsLastMade c programs tick (made_by o made)
made-last c programs tick (Some y) made is none = absurd (cc)
made-last c programs tick None made is none = is

none-told : (o : Option Cycle) (reader : Option ℕ) (made : Option Made) (y : Cycle) → o ≡ Some y → (reader_by o reader ≡ None) × (made_by o made ≡ None)
none-told (Some z) reader made y is = (refl, refl)
none-told None reader made y is = absurd (cc)

made-behind : (c : Configuration) (programs : List (List ℕ)) (tick : ℕ) (o : Option Cycle) (made : Option Made) → RunsAreAudited → IsChecked c → IsAccepted c
    → IsLastMade c programs tick made → IfSome (made_by o made) (RepeatsOnlyBehind c programs)
made-behind c programs tick (Some y) made audited checked accepted is = tt
made-behind c programs tick None None audited checked accepted is = tt
made-behind c programs tick None (Some m) audited checked accepted is = only-behind c programs m is.entry audited checked accepted is.is is.makes

pub run-is-told : RunsAreAudited → RunsRepeatForEver → RunIsTold
run-is-told audited law c programs tick search checked accepted is first = record {
  cycle = run-cycle c programs search.cycle law checked accepted is.cycle first;
  reader = read-last c programs tick search.cycle search.reader is.reader;
  made = made-last c programs tick search.cycle search.made is.made;
  behind = made-behind c programs tick search.cycle search.made audited checked accepted is.made;
  alone = none-told search.cycle search.reader search.made;
}

pub own-is-told : StandsAgainAsAlone → ProcessesRepeat → OwnIsTold
own-is-told as-alone repeats c programs tick search checked accepted is = record {
  keeping = is.keeping;
  cycle = λ keeps.
      own-cycle c programs search.process search.cycle as-alone repeats checked accepted (subst (IsKeeping c search.process (slice_index_or programs search.process [])) keeps is.keeping) is.cycle;
}
