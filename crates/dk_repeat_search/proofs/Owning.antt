-- What is counted of a cycle of a process by itself.
use Rattle.dk_repeat_search.proofs.Names.{ℕ, ◌≡◌, ◌+◌, ◌*◌, ◌<◌, ◌≤◌, ◌∙◌, List, [], ◌∷◌, ◌++◌, length, get_or, map, take, Option, Some, None, refl, sym, ap, subst, arith, All, IfSome, slice_index_or, get_or-map-range_with_len, length-map-range_with_len, map-append, map_more, take_all, Configuration, ProcessStandsAgain, Cycle, Keeping, OwnSearch, OwnTold, IsOwnSearch, own_told, MainShare, ProcessUse, CycleCounts, use_of, OwnFound, entries_from, share_at, shares_of, IsOneFound, IsOneUse, IsSameOwn, UsesOne, cycle_by, own_cycle, AreOwn, process_of, AreOwnFound, CountsSome, told_of}
use Rattle.dk_cycle.specs.declared.keeping.Keeping.TheVariants as kind
use Rattle.dk_repeat_report.specs.Lines as lines

still-within : (n more : ℕ) (o : Option Cycle) → IfSome o (λ y. y.start + y.length ≤ n) → IfSome o (λ y. y.start + y.length ≤ n + more)
still-within n more None is = tt
still-within n more (Some y) is = omega (arith, is)

-- a search up to a tick is one up to a later one
pub search-later : (c : Configuration) (programs : List (List ℕ)) (n more : ℕ) (s : OwnSearch) → IsOwnSearch c programs n s → IsOwnSearch c programs (n + more) s
search-later c programs n more s is = record {
  known = is.known;
  period = is.period;
  some = is.some;
  keeping = is.keeping;
  saved = is.saved;
  cycle = is.cycle;
  within = still-within n more s.cycle is.within;
}

pub searches-later : (c : Configuration) (programs : List (List ℕ)) (n more : ℕ) (own : List OwnSearch) → All (IsOwnSearch c programs n) own → All (IsOwnSearch c programs (n + more)) own
searches-later c programs n more own all = λ k d less. search-later c programs n more (slice_index_or own k d) (all k d less)

-- what holds of the cycle that was found holds of that of a process that keeps to itself
pub found-cycle : (keeping : Keeping) (o : Option Cycle) (y : Cycle) (P : Cycle → Type 0) → cycle_by keeping o ≡ Some y → IfSome o P → P y
found-cycle kind.Keeps o y P is holds = subst (λ (z : Option Cycle). IfSome z P) is holds
found-cycle kind.ReadsTick o y P is holds = absurd (cc)
found-cycle kind.HasThreads o y P is holds = absurd (cc)
found-cycle kind.HasSlack o y P is holds = absurd (cc)

same-is : (u v : ProcessUse) → u ≡ v → IsSameOwn u v
same-is u v is =
    subst (IsSameOwn u) is (record { windows = refl; waited = refl; overran = refl; least_used = refl; most_used = refl; budget = refl; refused = refl })

-- what is counted of one process
pub own-counted : (c : Configuration) (programs : List (List ℕ)) (p : ℕ) (share : MainShare) (y : Cycle) (counts : CycleCounts) (d : ProcessUse) → share ≡ share_at c p
    → CountsSome c programs (share ∷ []) y counts → UsesOne c programs p y (get_or counts.processes.items 0 d)
own-counted c programs p share y counts d is some =
    let es = entries_from c programs (y.start + some.cycles * y.length) y.length in
    let first : get_or counts.processes.items 0 d ≡ use_of share es = ap (λ (us : List ProcessUse). get_or us 0 d) some.are.processes in
    record {
      cycles = some.cycles;
      is = same-is (get_or counts.processes.items 0 d) (use_of (share_at c p) es) (first ∙ ap (λ (m : MainShare). use_of m es) is);
    }

pub none-found : (c : Configuration) (programs : List (List ℕ)) (tick : ℕ) (search : OwnSearch) (told : OwnTold) → IsOwnSearch c programs tick search → told ≡ own_told search
    → own_cycle told ≡ None → IsOneFound c programs (record { told = told; done = None })
none-found c programs tick search told is same none =
    record { tick = tick; search = search; is = is; told = same; done = subst (λ (o : Option Cycle). IsOneUse c programs told.process o None) (sym none) tt }

pub one-found : (c : Configuration) (programs : List (List ℕ)) (tick : ℕ) (search : OwnSearch) (told : OwnTold) (y : Cycle) (u : ProcessUse) → IsOwnSearch c programs tick search
    → told ≡ own_told search → own_cycle told ≡ Some y → UsesOne c programs told.process y u → IsOneFound c programs (record { told = told; done = Some u })
one-found c programs tick search told y u is same found uses =
    record { tick = tick; search = search; is = is; told = same; done = subst (λ (o : Option Cycle). IsOneUse c programs told.process o (Some u)) (sym found) uses }

-- the share of a process
pub many-shares : (c : Configuration) → length (shares_of c) ≡ length c.processes
many-shares c = length-map-range_with_len (share_at c) 0 (length c.processes)

pub share-there : (c : Configuration) (p : ℕ) (d : MainShare) → p < length c.processes → get_or (shares_of c) p d ≡ share_at c p
share-there c p d known = get_or-map-range_with_len (share_at c) 0 (length c.processes) p p d known (omega arith)

-- the cycle that is counted has ticks, and they have come
pub cycle-reached : (c : Configuration) (programs : List (List ℕ)) (tick : ℕ) (search : OwnSearch) (told : OwnTold) (y : Cycle) → IsOwnSearch c programs tick search
    → told ≡ own_told search → own_cycle told ≡ Some y → (0 < y.length) × (y.start + y.length ≤ tick)
cycle-reached c programs tick search told y is same found =
    let mine : cycle_by search.keeping search.cycle ≡ Some y = subst (λ (t : OwnTold). own_cycle t ≡ Some y) same found in (
      (found-cycle search.keeping search.cycle y (λ z. ProcessStandsAgain c programs search.process z.start z.length) mine is.cycle).later,
      found-cycle search.keeping search.cycle y (λ z. z.start + z.length ≤ tick) mine is.within,
    )

pub one-there : (c : Configuration) (programs : List (List ℕ)) (share : MainShare) (y : Cycle) (counts : CycleCounts) → CountsSome c programs (share ∷ []) y counts
    → 0 < length counts.processes.items
one-there c programs share y counts some =
    let many : length counts.processes.items ≡ 1 = ap length some.are.processes in
    omega (arith, many)

-- one process more
pub found-more : (all : List OwnFound) (f : OwnFound) (own : List OwnSearch) (i : ℕ) (d : OwnSearch) → i < length own → map lines.process_of all ≡ map process_of (take i own)
    → f.told.process ≡ process_of (get_or own i d) → map lines.process_of (all ++ f ∷ []) ≡ map process_of (take (i + 1) own)
found-more all f own i d less so-far is =
    map-append lines.process_of all (f ∷ []) ∙ ap (λ (ms : List ℕ). ms ++ f.told.process ∷ []) so-far
    ∙ ap (λ (m : ℕ). map process_of (take i own) ++ m ∷ []) is ∙ sym (map_more process_of own i d less)

pub found-all : (c : Configuration) (programs : List (List ℕ)) (tick : ℕ) (own : List OwnSearch) (all : List OwnFound) (i : ℕ) → AreOwn c programs tick own
    → All (IsOneFound c programs) all → map lines.process_of all ≡ map process_of (take i own) → length own ≤ i → AreOwnFound c programs all
found-all c programs tick own all i are found so-far past =
    record { all = found; processes = so-far ∙ ap (map process_of) (take_all i own past) ∙ are.processes }

-- what is told of one process more
pub told-more-of : (all : List OwnFound) (f : OwnFound) (own : List OwnSearch) (i : ℕ) (d : OwnSearch) → i < length own → map told_of all ≡ map own_told (take i own)
    → told_of f ≡ own_told (get_or own i d) → map told_of (all ++ f ∷ []) ≡ map own_told (take (i + 1) own)
told-more-of all f own i d less so-far is =
    map-append told_of all (f ∷ []) ∙ ap (λ (ts : List OwnTold). ts ++ told_of f ∷ []) so-far ∙ ap (λ (t : OwnTold). map own_told (take i own) ++ t ∷ []) is
    ∙ sym (map_more own_told own i d less)

pub told-all-of : (all : List OwnFound) (own : List OwnSearch) (i : ℕ) → map told_of all ≡ map own_told (take i own) → length own ≤ i → map told_of all ≡ map own_told own
told-all-of all own i so-far past = so-far ∙ ap (map own_told) (take_all i own past)
