-- Ticks that a kernel does at once.
use Rattle.dk_cycle_start.proofs.Names.{ℕ, suc, ◌≡◌, ◌+◌, ◌-◌, ◌≤◌, ◌∙◌, ◌∷◌, ◌++◌, Option, None, false, refl, sym, ap, subst, arith, replicate, IsChecked, IsAccepted, Event, Work, Label, Entry, quiet, trace, caller, Stretch, Running, trace_of, IsComputed, calls, entries_of, StartSearch, GoQuietly, StartsStay, IsSearch}

not-calling : (l : Label) → calls l ≡ false → caller l ≡ None
not-calling (Label.Kernel level) is = refl
not-calling (Label.In x) is = refl
not-calling (Label.Run x) is = refl
not-calling (Label.Call x) is = absurd (cc)
not-calling (Label.Out x) is = refl
not-calling (Label.Slack x source Work.In) is = refl
not-calling (Label.Slack x source Work.Run) is = refl
not-calling (Label.Slack x source Work.Call) is = absurd (cc)
not-calling Label.Idle is = refl

abbrev with-event : Label → Option Event → Entry
with-event label event = record { label = label; event = event }

pub stretched : (k l : Running) (s : Stretch) → l ≡ record k { ticks = k.ticks + s.count } → trace_of l ≡ entries_of s ++ trace_of k → 1 ≤ s.count → IsComputed s
    → GoQuietly k.config k.programs k.ticks s.count
stretched k l s next adds some is = record {
  label = s.label;
  nobody = not-calling s.label is.label;
  entries = ap (λ (r : Running). trace_of r) (sym next) ∙ adds ∙ ap (λ es. es ++ trace_of k) all;
}
  where
    all : entries_of s ≡ replicate s.count (quiet s.label)
    all =
        let one : suc (s.count - 1) ≡ s.count = omega (arith, some) in
        ap (λ (o : Option Event). with-event s.label o ∷ replicate (s.count - 1) (quiet s.label)) is.quiet ∙ ap (λ n. replicate n (quiet s.label)) one

pub none-gone : (k : Running) → GoQuietly k.config k.programs k.ticks 0
none-gone k = record {
  label = Label.Idle;
  nobody = refl;
  entries = let same : k.ticks + 0 ≡ k.ticks = omega arith in ap (trace k.config k.programs) same;
}

pub same-ticks : (k l : Running) → l ≡ k → l ≡ record k { ticks = k.ticks + 0 }
same-ticks k l same = let none : k.ticks ≡ k.ticks + 0 = omega arith in same ∙ ap (λ n. record k { ticks = n }) none

-- a search for the least start goes on over them
pub search-quiet : (k l : Running) (s : StartSearch) (n : ℕ) → StartsStay → l ≡ record k { ticks = k.ticks + n } → IsChecked k.config → IsAccepted k.config
    → GoQuietly k.config k.programs k.ticks n → IsSearch k s → IsSearch l s
search-quiet k l s n law next checked accepted go is =
    subst (λ (r : Running). IsSearch r s) (sym next) (law k.config k.programs k.ticks n s checked accepted go is)
