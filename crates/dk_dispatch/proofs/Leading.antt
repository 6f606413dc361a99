-- Who leads has the next tick, on its own node.
use Rattle.dk_dispatch.proofs.Names.{arith, inr, ◌≡◌, ◌∙◌, ◌+◌, ◌*◌, ◌%◌, ◌≤◌, true, ℕ, List, Option, None, Some, option_map, ap, refl, sym, subst, option_map_or, MAX_CHILDREN, MAX_THREADS, Configuration, ThreadId, Phase, Choice, Work, Label, Entry, held_by, innermost_left, chosen, label_of, ThreadRow, AreFamilies, Table, find_row, found-fits, RunsFirst, hold_left, First, IsComputing, HasFamilies, IsSound, Tables, node_in, IsReady, OwnsFront, HasNoWish, choice_of, fits_in, kernel_left, CallersHaveSlots, HasOwn, slots, TellsOf, ready, found-own, HasSlot, Lead, Leads}
use Rattle.dk_dispatch.proofs.Looking.{lead-works, work-is-chosen}

-- whoever computes in the next tick has a slot
pub slot-there : (d : Tables) (x : ThreadId) (c : Configuration) (past : List Entry) → CallersHaveSlots → IsReady c past d → Choice.Budget x Phase.Body ≡ chosen c past
    → (s : ℕ) × (slots d x ≡ Some s)
slot-there d x c past callers stands is =
    callers c (Label.Call x) past d x stands (inr (ap (λ z. label_of z Work.Call) is)) refl refl

-- the slot tells the node, and is the thread's own
pub record SeatedAt (t : Table) (x : ThreadId) (s : ℕ) : Type 0 where
  pub node : node_in t x ≡ MAX_THREADS * x.process + s
  pub seat : HasSlot (λ y. option_map (λ (row : ThreadRow). row.slot) (find_row t y)) x s

pub seated-at : (t : Table) (x : ThreadId) (s : ℕ) → AreFamilies t.levels t.families → option_map (λ (row : ThreadRow). row.slot) (find_row t x) ≡ Some s → SeatedAt t x s
seated-at t x s are is = go (find_row t x) refl
  where
    go : (o : Option ThreadRow) → o ≡ find_row t x → SeatedAt t x s
    go None at = let none : None ≡ Some s = ap (option_map (λ (row : ThreadRow). row.slot)) at ∙ is in absurd (cc)
    go (Some row) at =
        let some : Some row.slot ≡ Some s = ap (option_map (λ (row : ThreadRow). row.slot)) at ∙ is in
        let slot : row.slot ≡ s = cc in
        record {
          node = ap (λ (o : Option ThreadRow). MAX_THREADS * x.process + option_map_or (λ (row : ThreadRow). row.slot) o 0) (sym at) ∙ ap (λ n. MAX_THREADS * x.process + n) slot;
          seat = record {
            at = is;
            fits = (let fits : row.slot ≤ MAX_CHILDREN = found-fits t x (Some row) are at in omega (arith, slot, fits));
            own = subst (HasOwn (λ y. option_map (λ (row : ThreadRow). row.slot) (find_row t y)) x) slot (found-own t x (Some row) are at);
          };
        }

-- and the node tells the slot
pub slot-rest : (p node s : ℕ) → s ≤ MAX_CHILDREN → node ≡ MAX_THREADS * p + s → node % MAX_THREADS ≡ s
slot-rest p node s fits is = omega (arith, fits, is)

module _ (d : Tables) (first : First) (level : ℕ) (lead : Lead) (computes : IsComputing d.jobs first) (runs : RunsFirst first.thread first.level level d.mutexes)
    (kernel : (k : ℕ) → k ≤ level → kernel_left d k ≡ 0) (wish : fits_in d ≡ true → HasNoWish d level) (sound : IsSound d) (families : HasFamilies d)
    (choice : (c : Configuration) (past : List Entry) (d : Tables) → IsReady c past d → HasFamilies d → choice_of d ≡ chosen c past)
    (front : (c : Configuration) (past : List Entry) (d : Tables) (x : ThreadId) → IsReady c past d → HasFamilies d → IsSound d → OwnsFront x d)
    (callers : CallersHaveSlots)
    (left : (c : Configuration) (past : List Entry) (d : Tables) (x : ThreadId) → TellsOf d c past → hold_left x d.mutexes ≡ innermost_left c (held_by x past))
    (thread : lead.thread ≡ first.thread)
    (slot : (s : ℕ) → s ≤ MAX_CHILDREN → first.node ≡ MAX_THREADS * first.thread.process + s → lead.slot ≡ s)
    (holds : lead.left ≡ hold_left first.thread d.mutexes) where
  on-node : (c : Configuration) (past : List Entry) → IsReady c past d → first.node ≡ node_in d.threads first.thread
  on-node c past stands =
      let at = computes.stands in
      front c past d first.thread stands families sound first.level first.node at.known at.front at.thread

  first-chosen : (c : Configuration) (past : List Entry) → IsReady c past d → Choice.Budget first.thread Phase.Body ≡ chosen c past
  first-chosen c past stands =
      let work = lead-works d first level computes runs kernel (on-node c past stands) sound in
      sym (work-is-chosen d (record { level = level; choice = Choice.Budget first.thread Phase.Body }) work wish) ∙ choice c past d stands families

  told-slot : (c : Configuration) (past : List Entry) → IsReady c past d → HasSlot (slots d) first.thread lead.slot
  told-slot c past stands =
      let there = slot-there d first.thread c past callers stands (first-chosen c past stands) in
      let seat = seated-at d.threads first.thread there.0 families there.1 in
      let is : lead.slot ≡ there.0 = slot there.0 seat.seat.fits (on-node c past stands ∙ seat.node) in
      subst (HasSlot (slots d) first.thread) (sym is) seat.seat

  pub leads : Leads lead d
  leads = record {
    chosen = λ c past stands. ap (λ x. Choice.Budget x Phase.Body) thread ∙ first-chosen c past stands;
    seat = λ c past stands. subst (λ x. HasSlot (slots d) x lead.slot) (sym thread) (told-slot c past stands);
    left = λ c past stands.
        holds ∙ left c past d first.thread (ready stands) ∙ sym (ap (λ x. innermost_left c (held_by x past)) thread);
  }
