-- Whoever has an event runs by the rows.
use Rattle.dk_recount.proofs.Names.{◌≡◌, ◌∙◌, true, false, List, ◌∷◌, length, Some, None, is_none, ap, sym, subst, option_map_or, Configuration, ThreadId, Label, Entry, Has, is_of, is_end, has_event, quiet, Thread, threads, Follows, of-thread, family-charged, some-event, family-among, Always, AtEachEntry, ChosenHolds, FamiliesStand, RowsAreNamed, CallersRun, tick-thread, find_row, is_running, row-there, running-row, row-runs, Tables, IsCharged, RunsByRow}
use Rattle.dk_recount.proofs.Stop.Child.{thread-of-row}

-- the row of a thread that hasn't been stopped
pub row-of-runner : (c : Configuration) (label : Label) (past : List Entry) (d : Tables) → Always FamiliesStand → Always RowsAreNamed → IsCharged c label past d
    → (y : Thread) → Has (threads c past) y → y.stop ≡ None → RunsByRow d.threads y.id
row-of-runner c label past d families named charged y among stop =
    let ruled = charged.ruled in
    let stand = families c past ruled.checked ruled.accepted ruled.audited in
    let names = named c past ruled.checked ruled.accepted ruled.audited in
    let place = names.place y among in
    let own = row-there c (length past) (quiet label ∷ past) d.threads y charged.recount.rows place.0
    (subst (λ xs. Has xs y) (sym (family-charged c y.id.process label past)) place.1) (running-row c (length past) y stop) in
    let found : find_row d.threads own.row.id ≡ Some own.row = subst (λ i. find_row d.threads i ≡ Some own.row) (sym own.name) own.found in
    let t = thread-of-row c label past d.threads own.row charged.recount.rows stand found in
    let same : t.0 ≡ y = names.distinct t.0 y (family-among c t.0.id.process past t.0 t.1.process t.1.family) among (t.1.id ∙ own.name) in
    let on : is_running own.row ≡ true = row-runs c past own.row t.0 t.1 ∙ ap (λ (z : Thread). is_none z.stop) same ∙ ap is_none stop in
    record { row = own.row; found = own.found; runs = ap (λ o. option_map_or is_running o false) own.found ∙ on }

pub thread-runs : AtEachEntry CallersRun → Always FamiliesStand → Always RowsAreNamed → Always ChosenHolds
    → (c : Configuration) (e : Entry) (past : List Entry) (d : Tables) (x : ThreadId) → IsCharged c e.label past d → Follows c past e
    → is_of x e ≡ true → has_event is_end e ≡ true → RunsByRow d.threads x
thread-runs callers families named works c e past d x charged follows mine end =
    let ruled = charged.ruled in
    let t = tick-thread c past e.label x (works c past ruled.checked ruled.accepted ruled.audited) charged.chose (of-thread x e mine) in
    let event = some-event e.event end in
    let stop = callers c e past ruled.checked ruled.accepted (ruled.audited, follows) t.0 event.0 t.1 (subst (λ i. is_of i e ≡ true) (sym t.2) mine) event.1 in
    subst (RunsByRow d.threads) t.2 (row-of-runner c e.label past d families named charged t.0 t.1 stop)
