-- A file, as the depot reads it and as a step.
use Rattle.dk_inputs.proofs.Names.{ℕ, ◌≡◌, ◌≤◌, ◌<◌, ◌+◌, ◌∙◌, List, length, take, min, true, false, refl, sym, ap, subst, arith, ◌≢◌, IfSome, Option, Some, None, Ok, Err, nat_lt, nat_tests, length-take, take_all, CountsStray, IsReading, Refusal, Refuses, Tells, Files, Reads, file_at, read}
use Rattle.dk_inputs.specs.declared.refusal.Refusal.TheVariants as why
use Rattle.dk_inputs.proofs.FollowLemmas.{some_map}

module _ (most : ℕ) (long : Refusal) (file bytes : List ℕ) (is : bytes ≡ take (most + 1) file) where
  cut : length bytes ≡ min (most + 1) (length file)
  cut = ap length is ∙ length-take (most + 1) file

  -- what was read, where it isn't too long, is the whole file
  whole : length bytes ≤ most → read most long (Some file) ≡ record { given = length bytes; found = Ok bytes }
  whole few =
      let at : length bytes ≡ min (most + 1) (length file) = cut in
      let fits : nat_lt most (length file) ≡ false = grind (arith, nat_tests) in
      let all : length file ≤ most + 1 = omega (arith, at) in
      let same : file ≡ bytes = sym (is ∙ take_all (most + 1) file all) in
      rw fits (ap (λ f. record { given = length f; found = Ok f }) same)

  -- and the file is too long where that is
  longer : most < length bytes → read most long (Some file) ≡ record { given = length bytes; found = Err long }
  longer many =
      let at : length bytes ≡ min (most + 1) (length file) = cut in
      let over : nat_lt most (length file) ≡ true = grind (arith, nat_tests) in
      let count : most + 1 ≡ length bytes = omega (arith, at) in
      rw over (ap (λ n. record { given = n; found = Err long }) count)

module _ {X : Type 0} (view : X → List ℕ) (files : Option Files) (name : List ℕ) (most : ℕ) (long : Refusal) (x : X) (before after : ℕ)
    (held : IfSome files (λ at. IsReading at name most (view x))) (rose : after ≡ before + length (view x)) where
  pub told_file : length (view x) ≤ most → IfSome files (λ at. Tells (λ x y. y ≡ view x) (λ y e. ⊥) (Ok x) (file_at at name most long) before after)
  told_file few = some_map _ _ files (λ at reading.
      (let is : file_at at name most long ≡ record { given = length (view x); found = Ok (view x) } = ap (read most long) reading.1 ∙ whole most long reading.0 (view x) reading.2 few in
      (view x, ap (λ (s : Reads (List ℕ)). s.found) is, refl, rose ∙ ap (λ (s : Reads (List ℕ)). before + s.given) (sym is)))) held

  pub told_longer : most < length (view x) → IfSome files (λ at. Tells {X = X} (λ x y. y ≡ view x) (λ y e. ⊥) (Err long) (file_at at name most long) before after)
  told_longer many = some_map _ _ files (λ at reading quiet.
      (let is : file_at at name most long ≡ record { given = length (view x); found = Err long } = ap (read most long) reading.1 ∙ longer most long reading.0 (view x) reading.2 many in
      (subst (λ (s : Reads (List ℕ)). Refuses {X = X} (λ x y. y ≡ view x) (λ y e. ⊥) s.found long) (sym is) refl, rose ∙ ap (λ (s : Reads (List ℕ)). before + s.given) (sym is)))) held

-- a read of a file that is held doesn't stray
pub held_file : (files : Option Files) (name : List ℕ) (most : ℕ) (long : Refusal) (before after : ℕ) → IfSome files (λ at. CountsStray at name before after)
    → IfSome files (λ at. (file_at at name most long).found ≢ Err why.Depot → after ≡ before)
held_file None name most long before after counts = tt
held_file (Some at) name most long before after counts = by_file (at name) refl
  where
    by_file : (file : Option (List ℕ)) → at name ≡ file → (file_at at name most long).found ≢ Err why.Depot → after ≡ before
    by_file None e = λ held. let missing : (file_at at name most long).found ≡ Err why.Depot = rw e refl in absurd (held missing)
    by_file (Some file) e = λ held. rw e at counts
