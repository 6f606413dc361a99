-- Each command of `clap` that is made here is simple, and no argument of it has a rule on another.
use Rattle.dk_show_request.proofs.Names.{ℕ, ◌≡◌, refl, true, inl, inr, List, [], ◌∷◌, Bool, Option, Some, None, IfSome, sym, find, list_all, subst, cases_Bool, and_parts, bytes_eq, is_simple_and_free, Form, app_for, forms}
use Rattle.clap.proofs.OnLiterals.{clap_on_literals}

abbrev is_simple_form : Form → Bool
is_simple_form f = is_simple_and_free (app_for f)

simple_forms : list_all is_simple_form forms ≡ true
unfolding clap_on_literals
simple_forms = refl

found_simple : (p : Form → Bool) (fs : List Form) (f : Form) → list_all is_simple_form fs ≡ true → find p fs ≡ Some f → is_simple_form f ≡ true
found_simple p [] f all e = absurd (cc)
found_simple p (g ∷ gs) f all e =
    let parts = and_parts (is_simple_form g) (list_all is_simple_form gs) all in
    elim (cases_Bool (p g)) [
      | inl is ↦ let found : Some g ≡ Some f = rw is at e in let same : g ≡ f = cc in subst (λ h. is_simple_form h ≡ true) same parts.0
      | inr isnt ↦ found_simple p gs f parts.1 (rw isnt at e)
    ]

pub found_named : (w : List ℕ) (o : Option Form) → o ≡ find (λ f. bytes_eq f.word w) forms → IfSome o (λ f. is_simple_and_free (app_for f) ≡ true)
found_named w None is = tt
found_named w (Some f) is = found_simple (λ g. bytes_eq g.word w) forms f simple_forms (sym is)
