-- A create of whoever is in a call.
use Rattle.dk_recount.proofs.Names.{arith, ◌≡◌, ◌<◌, ◌+◌, ◌∙◌, true, eqb, ℕ, List, ◌∷◌, length, Some, None, refl, ap, sym, subst, option_map_or, MAX_TICKS, Configuration, ThreadId, Label, Event, Entry, Has, Thread, is_main, threads, create_refusal, Follows, quiet, Always, CallersStand, CallerStands, AreFamilies, has_room, serials_at, stands, IsSound, Tables, IsBooked, IsCalling, with_event, MayCreate, child_row, create_refusal_in, with_child, Creates, IsNewRow, create_refusal_of, lend_refusal, nat_tests}
use Rattle.dk_recount.proofs.Create.Recount.{created-booked}
use Rattle.dk_recount.proofs.Create.Recount.{Laws as BookLaws}
use Rattle.dk_recount.proofs.Create.Needs.{fits, known, lend-none, main-is, may-create, room, standing}
use Rattle.dk_recount.proofs.Create.Needs.{Laws as MayLaws}
use Rattle.dk_recount.proofs.Create.Slot.{is-new}

pub record MakeLaws : Type 0 where
  pub callers : Always CallersStand
  pub may : MayLaws
  pub book : BookLaws

-- the tables refuse a create as the past does
pub create-refused : (callers : Always CallersStand)
    → ((c : Configuration) (label : Label) (past : List Entry) (d : Tables) (y : Thread) (level quota entry instructions : ℕ) → IsCalling y.id c label past d
    → Has (threads c past) y → create_refusal_in d y.id level quota entry instructions ≡ create_refusal c (length past) (quiet label ∷ past) y level quota entry instructions)
    → (x : ThreadId) (c : Configuration) (label : Label) (past : List Entry) (d : Tables) (level quota entry instructions : ℕ) → IsCalling x c label past d
    → create_refusal_in d x level quota entry instructions ≡ create_refusal_of c label past x level quota entry instructions
create-refused callers same x c label past d level quota entry instructions calling =
    let ruled = calling.charged.ruled in
    let caller = callers c past ruled.checked ruled.accepted ruled.audited label x calling.charged.chose calling.caller calling.call in
    let own = subst (λ i. IsCalling i c label past d) (sym caller.id) calling in
    ap (λ i. create_refusal_in d i level quota entry instructions) (sym caller.id)
    ∙ same c label past d caller.row level quota entry instructions own caller.among
    ∙ sym (ap (λ o. option_map_or (λ (y : Thread). create_refusal c (length past) (quiet label ∷ past) y level quota entry instructions) o None) caller.found)

module _ (laws : MakeLaws) (x : ThreadId) (c : Configuration) (label : Label) (past : List Entry) (d : Tables) (level quota entry instructions : ℕ)
    (calling : IsCalling x c label past d) (sound : IsSound d) (are : AreFamilies d.threads.levels d.threads.families) where
  early : d.demand.windows.tick < MAX_TICKS
  early = let tick = calling.charged.recount.tick in let room = calling.charged.room in omega (arith, tick, room)

  caller : CallerStands c past x
  caller =
      let ruled = calling.charged.ruled in
      laws.callers c past ruled.checked ruled.accepted ruled.audited label x calling.charged.chose calling.caller calling.call

  abbrev y : Thread
  y = caller.row

  own : IsCalling y.id c label past d
  own = subst (λ i. IsCalling i c label past d) (sym caller.id) calling

  own-main : eqb x.serial 0 ≡ true → is_main y ≡ true
  own-main main = ap (λ (i : ThreadId). eqb i.serial 0) caller.id ∙ main

  pub may-make : eqb x.serial 0 ≡ true → MayCreate x.process level quota entry instructions d
  may-make main =
      subst (λ (i : ThreadId). MayCreate i.process level quota entry instructions d) caller.id
      (may-create laws.may c label past d y level quota entry instructions sound are early own caller.among (own-main main))

  module _ (none : create_refusal_in d x level quota entry instructions ≡ None) where
    parts : (eqb x.serial 0 ≡ true) × (lend_refusal d.loans x.process level quota entry instructions ≡ None)
    parts = lend-none d x level quota entry instructions none

    main : is_main y ≡ true
    main = own-main parts.0

    lends : lend_refusal d.loans y.id.process level quota entry instructions ≡ None
    lends = ap (λ (i : ThreadId). lend_refusal d.loans i.process level quota entry instructions) caller.id ∙ parts.1

    has-room : has_room d.threads y.id.process ≡ true
    has-room = room laws.may c label past d y level quota entry instructions sound are early own caller.among main lends

    is-standing : stands d.threads y.id.process ≡ true
    is-standing = standing laws.may c label past d y level quota entry instructions sound are early own caller.among main

    is-known : y.id.process < length c.processes
    is-known = known laws.may c label past d y level quota entry instructions sound are early own caller.among main

    pub new-row : IsNewRow x level d (with_child x.process level quota d) (child_row x.process level d)
    new-row =
        subst (λ (i : ThreadId). IsNewRow i level d (with_child i.process level quota d) (child_row i.process level d)) caller.id
        (is-new laws.may.free d y.id.process level quota are has-room is-standing y.id refl)

    made : Follows c past (with_event label (Event.Create (serials_at d.threads y.id.process + 1) level quota))
        → IsBooked c (with_event label (Event.Create (serials_at d.threads y.id.process + 1) level quota)) past (with_child y.id.process level quota d)
    made follows =
        created-booked laws.book c label past d y.id.process (serials_at d.threads y.id.process + 1) level quota sound are calling.charged follows
        (own.caller ∙ ap Some (main-is laws.may c label past d y level quota entry instructions sound are early own caller.among main))
        is-known (fits laws.may c label past d y level quota entry instructions sound are early own caller.among main lends) has-room is-standing

    pub creates : create_refusal_in d x level quota entry instructions ≡ create_refusal_of c label past x level quota entry instructions
        → Creates x level quota entry instructions d (with_child x.process level quota d) (child_row x.process level d) c label past
    creates same = record {
      serial = grind (arith, nat_tests, caller, is-known);
      start = grind (arith, nat_tests);
      met = sym same ∙ none;
      booked =
          subst (λ (i : ThreadId). Follows c past (with_event label (Event.Create (serials_at d.threads i.process + 1) level quota))
          → IsBooked c (with_event label (Event.Create (serials_at d.threads i.process + 1) level quota)) past (with_child i.process level quota d)) caller.id made;
    }
