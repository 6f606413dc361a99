use Rattle.dk_mutex.proofs.Names.{◌≡◌, ◌∙◌, ◌<◌, ap, refl, sym, subst, length, List, None, Some, Lockable, given_to, hold_of, holds_within, lock_refusal}
use Rattle.std.specs.Prelude.{false}
use Rattle.dk_mutex.proofs.Lefts.{far-locked}
use Rattle.dk_mutex.proofs.mutexes.Mutexes.lock.Goals as goal

pub take-requires : goal.take-requires
take-requires c =
    let rows = c.args.self.now in
    let none : lock_refusal c.args.id c.args.mutex c.args.body_left rows ≡ None =
    sym c.lock_refusal.ensures.refused ∙ c.in-None.is in
    let below : c.args.mutex < length rows = c.lock_refusal.ensures.known c.in-None.is in
    let hold : c.hold-left.result ≡ hold_of rows c.args.mutex =
    c.hold-left.ensures ∙ ap (λ (rs : List Lockable). hold_of rs c.args.mutex) c.self.view_is in
    record {
      known = below;
      free = c.requires none;
      least = subst (λ n. holds_within c.args.id n rows ≡ false) (sym hold) (far-locked c.args.id c.args.mutex c.args.body_left rows none);
    }

pub returns-in-Some-clause-answer : goal.returns-in-Some-clause-answer
returns-in-Some-clause-answer c = (sym c.lock_refusal.ensures.refused ∙ c.in-Some.is, refl)

pub returns-in-None-clause-answer : goal.returns-in-None-clause-answer
returns-in-None-clause-answer c =
    let rows = c.args.self.now in
    let none : lock_refusal c.args.id c.args.mutex c.args.body_left rows ≡ None =
    sym c.lock_refusal.ensures.refused ∙ c.in-None.is in
    let below : c.args.mutex < length rows = c.lock_refusal.ensures.known c.in-None.is in
    let hold : c.hold-left.result ≡ hold_of rows c.args.mutex =
    c.hold-left.ensures ∙ ap (λ (rs : List Lockable). hold_of rs c.args.mutex) c.self.view_is in
    (none, c.take.ensures ∙ ap (λ n. given_to (Some (record { thread = c.args.id; level = c.args.level; left = n })) c.args.mutex rows) hold)
