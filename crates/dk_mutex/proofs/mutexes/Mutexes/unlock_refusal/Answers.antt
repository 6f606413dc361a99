use Rattle.dk_mutex.proofs.Names.{◌≡◌, ◌∙◌, true, false, ap, refl, sym, slice_get, List, slice_get_within, is_within, at_row, hold_left, Refusal, option_map_or, Lockable}
use Rattle.dk_mutex.proofs.Reasons.{not-none, unlock-none, unlock-some}
use Rattle.dk_mutex.proofs.mutexes.Mutexes.unlock_refusal.Goals as goal

pub returns-in-None : goal.returns-in-None
returns-in-None c =
    let rows = c.args.self.now in
    record { refused = sym (unlock-none c.args.id c.args.mutex rows (ap (λ (rs : List Lockable). slice_get rs c.args.mutex) (sym c.self.view_is) ∙ c.in-None.ensures)); known = λ e. absurd (not-none Refusal.NotHeld e) }

pub returns-then-not-is_by : goal.returns-then-not-is_by
returns-then-not-is_by c =
    let rows = c.args.self.now in
    let is = c.in-Some.ensures in
    let found = ap (λ (rs : List Lockable). slice_get rs c.args.mutex) (sym c.self.view_is) ∙ is.at in
    let row : Lockable = record c.in-Some.row.now { holder = is.after } in
    record {
      refused = sym (unlock-some c.args.id c.args.mutex rows row false (is_within c.args.id (hold_left c.args.id rows) row) found (sym c.if-not-is_by.true ∙ c.is_by.ensures ∙ sym (is.by c.args.id)) refl);
      known = λ e. absurd (not-none Refusal.NotHeld e);
    }

pub returns-then-not-is_within : goal.returns-then-not-is_within
returns-then-not-is_within c =
    let rows = c.args.self.now in
    let is = c.in-Some.ensures in
    let found = ap (λ (rs : List Lockable). slice_get rs c.args.mutex) (sym c.self.view_is) ∙ is.at in
    let row : Lockable = record c.in-Some.row.now { holder = is.after } in
    let within : c.is_within.result ≡ is_within c.args.id (hold_left c.args.id rows) row =
    c.is_within.ensures
    ∙ ap (λ (rs : List Lockable). at_row (is_within c.args.id c.hold_left.result) rs c.args.mutex) c.self.view_is
    ∙ ap (λ o. option_map_or (is_within c.args.id c.hold_left.result) o false) found
    ∙ ap (λ most. is_within c.args.id most row) c.hold_left.ensures.left in
    record {
      refused = sym (unlock-some c.args.id c.args.mutex rows row true false found (sym c.if-not-is_by.false ∙ c.is_by.ensures ∙ sym (is.by c.args.id)) (sym c.if-not-is_within.true ∙ within));
      known = λ e. absurd (not-none Refusal.NotLast e);
    }

pub returns : goal.returns
returns c =
    let rows = c.args.self.now in
    let is = c.in-Some.ensures in
    let found = ap (λ (rs : List Lockable). slice_get rs c.args.mutex) (sym c.self.view_is) ∙ is.at in
    let row : Lockable = record c.in-Some.row.now { holder = is.after } in
    let within : c.is_within.result ≡ is_within c.args.id (hold_left c.args.id rows) row =
    c.is_within.ensures
    ∙ ap (λ (rs : List Lockable). at_row (is_within c.args.id c.hold_left.result) rs c.args.mutex) c.self.view_is
    ∙ ap (λ o. option_map_or (is_within c.args.id c.hold_left.result) o false) found
    ∙ ap (λ most. is_within c.args.id most row) c.hold_left.ensures.left in
    record {
      refused = sym (unlock-some c.args.id c.args.mutex rows row true true found (sym c.if-not-is_by.false ∙ c.is_by.ensures ∙ sym (is.by c.args.id)) (sym c.if-not-is_within.false ∙ within));
      known = λ e. slice_get_within rows c.args.mutex row found;
    }
