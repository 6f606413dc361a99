-- The rows once a child or a process is stopped, from the laws on rows and events.
use Rattle.dk_recount.proofs.Names.{◌≡◌, ◌<◌, inl, inr, true, false, List, ◌∷◌, length, Option, Some, None, refl, sym, subst, option_map_or, Configuration, IsChecked, ThreadId, Event, Entry, is_end, thread_of, quiet, of-thread, clock_at, Table, AreFamilies, runs, child_stopped, changed_at, main_id, ChildsEndStopsRow, DeleteStopsRow, StopsChild}
use Rattle.dk_threads.specs.Recount.{IsRecount}

pub exits-by : ChildsEndStopsRow → DeleteStopsRow
    → (c : Configuration) (e : Entry) (past : List Entry) (table : Table) (x : ThreadId) → IsChecked c → AreFamilies table.levels table.families
    → x.process < length c.processes → runs table x ≡ true → StopsChild e x → IsRecount c (length past) (quiet e.label ∷ past) table
    → IsRecount c (length past) (e ∷ past) (changed_at (child_stopped x (clock_at c (length past))) x.process table)
exits-by exit delete c e past table x checked are known running ends before =
    elim ends.cause [
      | inl own ↦ go e.event refl own.1 (of-thread x e own.0)
      | inr deleted ↦
          subst (λ o. IsRecount c (length past) (record { label = e.label; event = o } ∷ past) (changed_at (child_stopped x (clock_at c (length past))) x.process table)) (sym deleted.1)
          (delete c e.label past table x checked are known ends.child running (of-thread (main_id x.process) e deleted.0) before)
    ]
  where
    go : (o : Option Event) → e.event ≡ o → option_map_or is_end e.event false ≡ true → thread_of e.label ≡ Some x
        → IsRecount c (length past) (e ∷ past) (changed_at (child_stopped x (clock_at c (length past))) x.process table)
    go None at end mine = let none : false ≡ true = rw at at end in absurd (cc)
    go (Some event) at end mine =
        let is : is_end event ≡ true = rw at at end in
        subst (λ o. IsRecount c (length past) (record { label = e.label; event = o } ∷ past) (changed_at (child_stopped x (clock_at c (length past))) x.process table)) (sym at)
        (exit c e.label past table x event checked are known ends.child running mine is before)
