-- A delete is refused by the rows as by the past.
use Rattle.dk_recount.proofs.Names.{◌≡◌, ◌<◌, ◌∙◌, ◌&&◌, inl, inr, Bool, true, false, eqb, ℕ, List, [], ◌∷◌, length, Option, Some, None, is_none, refl, ap, sym, subst, arith, if◌then◌else◌, list_any, option_map_or, cases_Bool, and_parts, nat_tests, Configuration, none-stop, ThreadId, Label, Entry, Refusal, Has, Thread, threads, family, is_main, is_running_child, delete_refusal, first_refusal, same-id, find-has, list_any-has, any-has, family-charged, family-among, quiet, Always, FamiliesStand, RowsAreNamed, ThreadRow, is_row_of, find_row, runs, is_child, is_running, row-runs, running-row, RowOf, row-there, Tables, IsCharged, running_child, child_of, delete_refusal_in}
use Rattle.std.proofs.Common.{not}
use Rattle.dk_recount.proofs.Stop.Child.{thread-of-row}

module _ (c : Configuration) (label : Label) (past : List Entry) (d : Tables) (charged : IsCharged c label past d) (families : Always FamiliesStand) (named : Always RowsAreNamed) where
  abbrev before : List Entry
  before = quiet label ∷ past

  stands : FamiliesStand c past
  stands = families c past charged.ruled.checked charged.ruled.accepted charged.ruled.audited

  -- a row that runs is that of a thread that runs
  row-thread : (child : ThreadId) (row : ThreadRow) → running_child d.threads child ≡ Some row → list_any (is_running_child child.serial) (family c child.process past) ≡ true
  row-thread child row is = go (is_child child && runs d.threads child) refl
    where
      go : (b : Bool) → (is_child child && runs d.threads child) ≡ b → list_any (is_running_child child.serial) (family c child.process past) ≡ true
      go false off = let none : None ≡ Some row = rw off at is in absurd (cc)
      go true on =
          let found : find_row d.threads child ≡ Some row = rw on at is in
          let parts = and_parts (is_child child) (runs d.threads child) on in
          let name : row.id ≡ child = sym (same-id child row.id (find-has (is_row_of child) _ row found).1) in
          let found' : find_row d.threads row.id ≡ Some row = subst (λ i. find_row d.threads i ≡ Some row) (sym name) found in
          let t = thread-of-row c label past d.threads row charged.recount.rows stands found' in
          let running : is_running row ≡ true = sym (ap (λ o. option_map_or is_running o false) found) ∙ parts.1 in
          let stop : is_none t.0.stop ≡ true = sym (row-runs c past row t.0 t.1) ∙ running in
          let id : t.0.id ≡ child = t.1.id ∙ name in
          let among : Has (family c child.process past) t.0 = subst (λ (i : ThreadId). Has (family c i.process past) t.0) id t.1.family in
          let serial : eqb t.0.id.serial child.serial ≡ true = (let e : t.0.id.serial ≡ child.serial = ap (λ (i : ThreadId). i.serial) id in grind (arith, nat_tests)) in
          let main : not (is_main t.0) ≡ true = ap (λ (i : ThreadId). not (eqb i.serial 0)) id ∙ parts.0 in
          list_any-has (is_running_child child.serial) (family c child.process past) t.0 among (rw (main, serial, stop) refl)

  -- and the other way round
  pub thread-row : (x : Thread) (serial : ℕ) → Has (threads c past) x → list_any (is_running_child serial) (family c x.id.process past) ≡ true
      → is_none (running_child d.threads (child_of x.id serial)) ≡ false
  thread-row x serial h any =
      let r = any-has (is_running_child serial) (family c x.id.process past) any in
      let y = r.0 in
      let one = and_parts (not (is_main y) && eqb y.id.serial serial) (is_none y.stop) r.2 in
      let two = and_parts (not (is_main y)) (eqb y.id.serial serial) one.0 in
      let place = (named c past charged.ruled.checked charged.ruled.accepted charged.ruled.audited).place x h in
      let f = stands x.id.process place.0 in
      let process : y.id.process ≡ x.id.process = grind (arith, nat_tests) in
      let serial' : y.id.serial ≡ serial = (let t = two.1 in grind (arith, nat_tests)) in
      let id : y.id ≡ child_of x.id serial = ap (λ k. record { process = k; serial = y.id.serial }) process ∙ ap (λ k. record { process = x.id.process; serial = k }) serial' in
      let stop = none-stop y.stop one.1 in
      let there = running-row c (length past) y stop in
      let known : y.id.process < length c.processes = subst (λ k. k < length c.processes) (sym process) place.0 in
      let among : Has (family c y.id.process before) y = grind (arith, nat_tests, family-charged) in
      let row = row-there c (length past) before d.threads y charged.recount.rows known among there in
      let found : find_row d.threads row.row.id ≡ Some row.row = subst (λ i. find_row d.threads i ≡ Some row.row) (sym row.name) row.found in
      let t = thread-of-row c label past d.threads row.row charged.recount.rows stands found in
      let same-thread : t.0 ≡ y = same t.0 y t.1 (t.1.id ∙ row.name) (subst (λ k. Has (family c k past) y) (sym process) r.1) known in
      let runs' : is_running row.row ≡ true = row-runs c past row.row t.0 t.1 ∙ ap (λ (z : Thread). is_none z.stop) same-thread ∙ ap is_none stop in
      let found' : find_row d.threads (child_of x.id serial) ≡ Some row.row = subst (λ i. find_row d.threads i ≡ Some row.row) id row.found in
      let child : is_child (child_of x.id serial) ≡ true = sym (ap (λ (i : ThreadId). not (eqb i.serial 0)) id) ∙ two.0 in
      let running : runs d.threads (child_of x.id serial) ≡ true = ap (λ o. option_map_or is_running o false) found' ∙ runs' in
      let on : (is_child (child_of x.id serial) && runs d.threads (child_of x.id serial)) ≡ true = rw (child, running) refl in
      ap (λ b. is_none (if b then find_row d.threads (child_of x.id serial) else None)) on ∙ ap is_none found'
    where
      same : (t y : Thread) {row : ThreadRow} → RowOf c past row t → t.id ≡ y.id → Has (family c y.id.process past) y → y.id.process < length c.processes → t ≡ y
      same t y of id has known =
          let all = named c past charged.ruled.checked charged.ruled.accepted charged.ruled.audited in
          all.distinct t y (family-among' t of.process of.family) (family-among' y known has) id
        where
          family-among' : (z : Thread) → z.id.process < length c.processes → Has (family c z.id.process past) z → Has (threads c past) z
          family-among' z k h = family-among c z.id.process past z k h

  pub refused-alike : (x : Thread) (serial : ℕ) → Has (threads c past) x → delete_refusal_in d.threads x.id serial ≡ delete_refusal c before x serial
  refused-alike x serial h =
      ap (λ b. first_refusal ((not (eqb x.id.serial 0), Refusal.NotMain) ∷ (b, Refusal.NoThread) ∷ []))
      (go (running_child d.threads (child_of x.id serial)) refl ∙ ap (λ xs. not (list_any (is_running_child serial) xs)) (sym (family-charged c x.id.process label past)))
    where
      go : (o : Option ThreadRow) → running_child d.threads (child_of x.id serial) ≡ o
          → is_none (running_child d.threads (child_of x.id serial)) ≡ not (list_any (is_running_child serial) (family c x.id.process past))
      go (Some row) at = ap is_none at ∙ sym (ap not (row-thread (child_of x.id serial) row at))
      go None at =
          elim (cases_Bool (list_any (is_running_child serial) (family c x.id.process past))) [
            | inl any ↦ thread-row x serial h any ∙ sym (ap not any)
            | inr off ↦ ap is_none at ∙ sym (ap not off)
          ]
