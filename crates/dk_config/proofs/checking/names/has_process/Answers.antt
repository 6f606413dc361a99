use Rattle.std.proofs.Common.{◌≡◌, ◌∙◌, Bool, inl, inr, List, [], ◌∷◌, refl, ap}
use Rattle.std.specs.Borrow.{Bor}
use Rattle.std.specs.Prelude.{Option, Some, None, is_some, option_copied, find}
use Rattle.std.specs.List.{list_any}
use Rattle.std.specs.Str.{bytes_eq}
use Rattle.std.proofs.lemmas.Bool.{cases_Bool}
use Rattle.dk_config.proofs.checking.names.has_process.Goals as goal

is_some-find : {X : Type 0} (p : X → Bool) (xs : List X) → is_some (find p xs) ≡ list_any p xs
is_some-find p [] = refl
is_some-find p (x ∷ xs) = elim (cases_Bool (p x)) [ inl here ↦ rw here refl | inr later ↦ rw later (is_some-find p xs) ]

is_some-copied : {X : Type 0} (o : Option (Bor X)) → is_some o ≡ is_some (option_copied o)
is_some-copied None = refl
is_some-copied (Some x) = refl

pub returns : goal.returns
returns c =
    c.is_some.ensures ∙ is_some-copied c.find_process.result ∙ ap is_some c.find_process.ensures
    ∙ is_some-find (λ q. bytes_eq q.name c.args.name.now) c.args.processes.now
