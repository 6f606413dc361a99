-- Two kernels of one run, of which one is later by the length of a cycle.
use Rattle.dk_cycle_start.proofs.Names.{ℕ, ◌≡◌, ◌+◌, ◌%◌, ◌<◌, ◌≤◌, ◌∙◌, inl, inr, Bool, true, false, List, ◌∷◌, Option, Some, sym, ap, subst, arith, IfSome, option_map, add-mod_right, cases_eq, cases_lt, Configuration, IsChecked, IsAccepted, Entry, trace, Workload, RunStandsAgain, ThreadsStandAlike, IsLoaded, Running, trace_of, world_of, Cycle, RunSearch, StartSearch, IsLongest, IsReader, IsRunSearch, AreImagesAlike, FollowsStart, IsOpen, Opens, Shuts, StartsAt, StartsFirst, with_start, apart, begins-longest, AreComparable, AreDifferent, Answers, HasPrograms, IsCycleOf, IsFirst, IsLater, IsSearch, IsSettled, begun}

-- the search after one more tick of the later kernel
pub search-next : (k l : Running) (s t : StartSearch) (e : Entry) (reader : Option ℕ) (tick : ℕ) → tick ≡ k.ticks → l ≡ record k { ticks = k.ticks + 1 }
    → trace_of l ≡ e ∷ trace_of k → IsChecked l.config → IsAccepted l.config → IsSearch k s
    → ((n : ℕ) → l.ticks ≡ n + 1 → trace l.config l.programs (n + 1) ≡ e ∷ trace l.config l.programs n → IsReader l.config l.programs n e reader)
    → FollowsStart s tick e reader t → IsSearch l t
search-next k l s t e reader tick now next adds checked' accepted' is reads follows =
    let config : l.config ≡ k.config = ap (λ (r : Running). r.config) next in
    let ticks : l.ticks ≡ k.ticks + 1 = ap (λ (r : Running). r.ticks) next in
    let checked : IsChecked k.config = subst (λ (c : Configuration). IsChecked c) config checked' in
    let accepted : IsAccepted k.config = subst (λ (c : Configuration). IsAccepted c) config accepted' in
    let more : trace k.config k.programs (k.ticks + 1) ≡ e ∷ trace k.config k.programs k.ticks = ap (λ (r : Running). trace_of r) (sym next) ∙ adds in
    let read : IsReader k.config k.programs k.ticks e reader =
    subst (λ (r : Running). trace r.config r.programs (k.ticks + 1) ≡ e ∷ trace r.config r.programs k.ticks → IsReader r.config r.programs k.ticks e reader) next
    (reads k.ticks ticks) more in
    let follow : FollowsStart s k.ticks e reader t = subst (λ n. FollowsStart s n e reader t) now follows in
    subst (λ (r : Running). IsSearch r t) (sym next) (follow k.config k.programs checked accepted is more read)

-- ---- the run at both ticks

module _ (k l : Running) (y : Cycle) (s : StartSearch) (early late : ℕ) (at : early ≡ k.ticks) (at-late : late ≡ l.ticks) (later : IsLater k y.length l) (is : IsSearch l s)
    (has : HasPrograms k) where
  ends : late ≡ k.ticks + y.length
  ends = at-late ∙ ap (λ (r : Running). r.ticks) later

  own : IsSearch (record k { ticks = k.ticks + y.length }) s
  own = subst (λ (r : Running). IsSearch r s) later is

  pub open-now : Opens s early late → IsOpen k.config k.programs k.ticks y.length
  open-now opens =
      let there = subst (λ n. Opens s n late) at opens in
      there k.config k.programs y.length (subst (λ n. IsSearch (record k { ticks = n }) s) (sym ends) own) ends

  pub comparable : Opens s early late → AreComparable k l
  comparable opens = record {
    config = ap (λ (r : Running). r.config) later;
    programs = ap (λ (r : Running). r.programs) later;
    many = has;
    threads = subst (λ (r : Running). ThreadsStandAlike k.config (trace_of k) (trace_of r)) (sym later) (open-now opens).threads;
  }

  pub shut-now : IsChecked k.config → IsAccepted k.config → IsCycleOf k y → Shuts s early late → Answers k y k.ticks false
  shut-now checked accepted of shuts =
      let there = subst (λ n. Shuts s n late) at shuts in
      record {
        yes = λ never. absurd (cc);
        no = λ no. there k.config k.programs y checked accepted (subst (λ n. IsSearch (record k { ticks = n }) s) (sym ends) own) of.stands of.keeps ends;
      }

  pub answered : IsCycleOf k y → Opens s early late → (b : Bool) → (b ≡ true → AreImagesAlike k.config (world_of k) (world_of l)) → (b ≡ false → AreDifferent k l)
      → Answers k y k.ticks b
  answered of opens b same other =
      let o = open-now opens in
      record {
        yes = λ yes.
            let images : AreImagesAlike k.config (world_of k) (world_of (record k { ticks = k.ticks + y.length })) =
            subst (λ (r : Running). AreImagesAlike k.config (world_of k) (world_of r)) later (same yes) in
            record {
              later = of.stands.later;
              begins = o.begins;
              begins_later = o.begins_later;
              alike = record { threads = o.threads; memory = images.memory; contexts = images.contexts };
              clock = o.clock;
            };
        no = λ no stands.
            other no (subst (λ (r : Running). AreImagesAlike k.config (world_of k) (world_of r)) (sym later)
            (record { memory = stands.alike.memory; contexts = stands.alike.contexts }));
      }

-- ---- from one start of all windows to the next

-- both are so many ticks on
pub both-next : (k l : Running) (n more : ℕ) (k' l' : Running) → IsLater k n l → k' ≡ record k { ticks = k.ticks + more } → l' ≡ record l { ticks = l.ticks + more }
    → IsLater k' n l'
both-next k l n more k' l' later next next' =
    let order : k.ticks + n + more ≡ k.ticks + more + n = omega arith in
    next' ∙ ap (λ (r : Running). record r { ticks = r.ticks + more }) later ∙ ap (λ m. record k { ticks = m }) order
    ∙ sym (ap (λ (r : Running). record r { ticks = r.ticks + n }) next)

-- the next start of all windows comes not before the start that was found
pub room : (c : Configuration) (programs : List (List ℕ)) (y : Cycle) (longest start : ℕ) → IsLongest c longest → RunStandsAgain c programs y.start y.length → start % longest ≡ 0
    → start < y.start → start + longest ≤ y.start
room c programs y longest start is stands begins less = apart longest start y.start begins (begins-longest c longest y.start is stands.begins) less

pub next-begins : (longest start : ℕ) → start % longest ≡ 0 → (start + longest) % longest ≡ 0
next-begins longest start begins = add-mod_right start longest ∙ begins

-- between two of them not all windows begin
pub none-more : (k : Running) (y : Cycle) (longest start : ℕ) → IsLongest k.config longest → start % longest ≡ 0
    → ((t : ℕ) → t < start → RunStandsAgain k.config k.programs t y.length → ⊥) → (RunStandsAgain k.config k.programs start y.length → ⊥)
    → (t : ℕ) → t < start + longest → RunStandsAgain k.config k.programs t y.length → ⊥
none-more k y longest start is begins before here t less =
    elim (cases_lt t start) [
      | inl early ↦ before t early
      | inr late ↦
          elim (cases_eq start t) [
            | inl same ↦ subst (λ n. RunStandsAgain k.config k.programs n y.length → ⊥) same here
            | inr other ↦ λ stands.
                let far = apart longest start t begins (begins-longest k.config longest t is stands.begins) (omega (arith, late, other)) in
                absurd (omega (arith, far, less))
          ]
    ]

-- a search whose cycle was moved to its first start
pub settled : (w : Workload) (tick : ℕ) (before after : RunSearch) (y : Cycle) (start : ℕ) → IsLoaded w → IsRunSearch w.config w.programs tick before
    → before.cycle ≡ Some y → IsFirst (begun w) y start → StartsAt before start after → after.cycle ≡ option_map (with_start start) before.cycle
    → IsSettled w tick before after
settled w tick before after y start loaded is cycle first moves new =
    let found : after.cycle ≡ Some (with_start start y) = new ∙ ap (option_map (with_start start)) cycle in
    record {
      is = moves w.config w.programs tick y loaded.checked loaded.accepted is cycle first.early first.stands;
      first = subst (λ (o : Option Cycle). IfSome o (StartsFirst w.config w.programs)) (sym found) first.first;
      start = start;
      cycle = new;
    }
