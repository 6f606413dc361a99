-- What is counted from the start of a cycle on.
use Rattle.dk_repeat_search.proofs.Names.{ℕ, suc, ◌≡◌, ◌+◌, ◌-◌, ◌*◌, ◌/◌, ◌%◌, ◌<◌, ◌≤◌, ◌∙◌, List, [], ◌∷◌, take, ap, sym, subst, arith, div-add-mod, mod_below, Configuration, Entry, trace, Running, trace_of, Cycle, MainShare, CycleCounts, AreCountsOf, CountsOne, entries_from, shares_of, CountsSome, StartsCycle, ◌++◌, Option, replicate, Label, Event, quiet, Stretch, IsComputed, length, length-replicate, take-append-add}
use Rattle.dk_kernel.specs.Stretches.{entries_of as stretch_entries}

pub starts-now : (y : Cycle) (now : ℕ) → y.start ≤ now → (now - y.start) % y.length ≡ 0 → StartsCycle y (now + 0)
starts-now y now within none =
    let n = now - y.start in
    let parts = div-add-mod n y.length in
    (n / y.length, omega (arith, parts, within, none))

pub starts-later : (y : Cycle) (now : ℕ) → 0 < y.length → y.start ≤ now → StartsCycle y (now + (y.length - (now - y.start) % y.length))
starts-later y now some within =
    let n = now - y.start in
    let parts = div-add-mod n y.length in
    let low = mod_below n y.length some in
    let times : suc (n / y.length) * y.length ≡ n / y.length * y.length + y.length = omega arith in
    (suc (n / y.length), omega (arith, parts, within, low, times))

-- the entries so far, with one more
pub count-next : (old new : CycleCounts) (k l : Running) (e : Entry) → trace_of l ≡ e ∷ trace_of k
    → ((shares : List MainShare) (es : List Entry) → AreCountsOf shares es old → AreCountsOf shares (e ∷ es) new)
    → (shares : List MainShare) (n : ℕ) → AreCountsOf shares (take n (trace_of k)) old → AreCountsOf shares (take (n + 1) (trace_of l)) new
count-next old new k l e next more = λ shares n so_far.
    let one : n + 1 ≡ suc n = omega arith in
    let same : take (n + 1) (trace_of l) ≡ e ∷ take n (trace_of k) = ap (take (n + 1)) next ∙ ap (λ m. take m (e ∷ trace_of k)) one in
    subst (λ es. AreCountsOf shares es new) (sym same) (more shares (take n (trace_of k)) so_far)

abbrev with-event : Label → Option Event → Entry
with-event label event = record { label = label; event = event }

-- the entries of a stretch in which nothing happens
all-quiet : (s : Stretch) → 1 ≤ s.count → IsComputed s → stretch_entries s ≡ replicate s.count (quiet s.label)
all-quiet s some is =
    let one : suc (s.count - 1) ≡ s.count = omega (arith, some) in
    ap (λ (o : Option Event). with-event s.label o ∷ replicate (s.count - 1) (quiet s.label)) is.quiet ∙ ap (λ n. replicate n (quiet s.label)) one

-- and with those of one
pub count-quiet : (old new : CycleCounts) (k l : Running) (s : Stretch) → trace_of l ≡ stretch_entries s ++ trace_of k → 1 ≤ s.count → IsComputed s
    → ((shares : List MainShare) (es : List Entry) → AreCountsOf shares es old → AreCountsOf shares (replicate s.count (quiet s.label) ++ es) new)
    → (shares : List MainShare) (n : ℕ) → AreCountsOf shares (take n (trace_of k)) old → AreCountsOf shares (take (n + s.count) (trace_of l)) new
count-quiet old new k l s next some is more = λ shares n so_far.
    let all = replicate s.count (quiet s.label) in
    let size = length-replicate s.count (quiet s.label) in
    let many : n + s.count ≡ length all + n = omega (arith, size) in
    let same : take (n + s.count) (trace_of l) ≡ all ++ take n (trace_of k) =
    ap (take (n + s.count)) (next ∙ ap (λ es. es ++ trace_of k) (all-quiet s some is)) ∙ ap (λ m. take m (all ++ trace_of k)) many
    ∙ take-append-add all (trace_of k) n in
    subst (λ es. AreCountsOf shares es new) (sym same) (more shares (take n (trace_of k)) so_far)

pub counted-cycle : (k begun done : Running) (y : Cycle) (ahead : ℕ) (shares : List MainShare) (none counts : CycleCounts)
    → begun ≡ record k { ticks = k.ticks + ahead } → done ≡ record begun { ticks = begun.ticks + y.length } → StartsCycle y (k.ticks + ahead)
    → AreCountsOf shares [] none → ((ms : List MainShare) → AreCountsOf ms [] none → AreCountsOf ms (take y.length (trace_of done)) counts)
    → CountsSome k.config k.programs shares y counts
counted-cycle k begun done y ahead shares none counts begun-is done-is starts start counted =
    let same : take y.length (trace_of done) ≡ entries_from k.config k.programs (y.start + starts.0 * y.length) y.length =
    ap (λ (r : Running). take y.length (trace_of r)) (done-is ∙ ap (λ (r : Running). record r { ticks = r.ticks + y.length }) begun-is)
    ∙ ap (λ n. take y.length (trace k.config k.programs (n + y.length))) starts.1 in
    record { cycles = starts.0; are = subst (λ es. AreCountsOf shares es counts) same (counted shares start) }

-- of all processes
pub counts-one : (c : Configuration) (programs : List (List ℕ)) (shares : List MainShare) (y : Cycle) (k : CycleCounts) → shares ≡ shares_of c
    → CountsSome c programs shares y k → CountsOne c programs y k
counts-one c programs shares y k is some = record {
  cycles = some.cycles;
  are = subst (λ ms. AreCountsOf ms (entries_from c programs (y.start + some.cycles * y.length) y.length) k) is some.are;
}
