use Rattle.dk_mutex.proofs.Names.{◌∙◌, true, false, ap, refl, sym, slice_get, List, slice_get_within, Refusal, Lockable}
use Rattle.dk_mutex.proofs.Reasons.{not-none, lock-none, lock-some}
use Rattle.dk_mutex.proofs.mutexes.Mutexes.lock_refusal.Goals as goal

pub returns-in-None : goal.returns-in-None
returns-in-None c =
    let rows = c.args.self.now in
    record { refused = sym (lock-none c.args.id c.args.mutex c.args.body_left rows (ap (λ (rs : List Lockable). slice_get rs c.args.mutex) (sym c.self.view_is) ∙ c.in-None.ensures)); known = λ e. absurd (not-none Refusal.NotUser e) }

pub returns-then-not-lists_user : goal.returns-then-not-lists_user
returns-then-not-lists_user c =
    let rows = c.args.self.now in
    let is = c.in-Some.ensures in
    let found = ap (λ (rs : List Lockable). slice_get rs c.args.mutex) (sym c.self.view_is) ∙ is.at in
    let row : Lockable = record c.in-Some.row.now { holder = is.after } in
    record {
      refused = sym (lock-some c.args.id c.args.mutex c.args.body_left rows row false _ _ found (sym c.if-not-lists_user.true ∙ c.lists_user.ensures) refl refl);
      known = λ e. absurd (not-none Refusal.NotUser e);
    }

pub returns-then-is_by : goal.returns-then-is_by
returns-then-is_by c =
    let rows = c.args.self.now in
    let is = c.in-Some.ensures in
    let found = ap (λ (rs : List Lockable). slice_get rs c.args.mutex) (sym c.self.view_is) ∙ is.at in
    let row : Lockable = record c.in-Some.row.now { holder = is.after } in
    record {
      refused = sym (lock-some c.args.id c.args.mutex c.args.body_left rows row true true _ found (sym c.if-not-lists_user.false ∙ c.lists_user.ensures)
          (sym c.if-is_by.true ∙ c.is_by.ensures ∙ sym (is.by c.args.id)) refl);
      known = λ e. absurd (not-none Refusal.Holding e);
    }

pub returns-then-leaves_too_little : goal.returns-then-leaves_too_little
returns-then-leaves_too_little c =
    let rows = c.args.self.now in
    let is = c.in-Some.ensures in
    let found = ap (λ (rs : List Lockable). slice_get rs c.args.mutex) (sym c.self.view_is) ∙ is.at in
    let row : Lockable = record c.in-Some.row.now { holder = is.after } in
    record {
      refused = sym (lock-some c.args.id c.args.mutex c.args.body_left rows row true false true found (sym c.if-not-lists_user.false ∙ c.lists_user.ensures)
          (sym c.if-is_by.false ∙ c.is_by.ensures ∙ sym (is.by c.args.id)) (sym c.if-leaves_too_little.true ∙ c.leaves_too_little.ensures));
      known = λ e. absurd (not-none Refusal.TooLittle e);
    }

pub returns : goal.returns
returns c =
    let rows = c.args.self.now in
    let is = c.in-Some.ensures in
    let found = ap (λ (rs : List Lockable). slice_get rs c.args.mutex) (sym c.self.view_is) ∙ is.at in
    let row : Lockable = record c.in-Some.row.now { holder = is.after } in
    record {
      refused = sym (lock-some c.args.id c.args.mutex c.args.body_left rows row true false false found (sym c.if-not-lists_user.false ∙ c.lists_user.ensures)
          (sym c.if-is_by.false ∙ c.is_by.ensures ∙ sym (is.by c.args.id)) (sym c.if-leaves_too_little.false ∙ c.leaves_too_little.ensures));
      known = λ e. slice_get_within rows c.args.mutex row found;
    }
