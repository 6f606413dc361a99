-- What reads hand out, and which of them stray.
use Rattle.dk_show.proofs.Names.{ℕ, ◌≡◌, ◌∙◌, ◌+◌, List, length, refl, sym, ap, subst, arith, length-take, false, Option, Some, None, IfSome, Result, Ok, Err, IsErrAnd, Configuration, CountsStray, IsReading, DepotView, LoadFault, CountsReads, bytes_read, loading, reading, Refusal, Files, is_silent, Asks, IsLoud, MissesAfter, handed_after, handed_out}
use Rattle.dk_loader.specs.declared.fault.LoadFault.TheVariants as fault
use Rattle.dk_show.specs.declared.refusal.Refusal.TheVariants as why

module _ {A B : Type 0} (files : Option Files) (bytes : Files → ℕ) (Missing : Files → Type 0) (old new : DepotView) where
  -- what follows on an answer asks for nothing more
  pub asks_on : (x : A) (r : Result B Refusal) → Asks files bytes Missing old new (Ok x) → Asks files bytes Missing old new r
  asks_on x r a = record { given = on files a.given; strays = a.strays }
    where
      on : (files : Option Files) → IfSome files (λ at. IsLoud {A = A} (Ok x) → new.given ≡ old.given + bytes at)
          → IfSome files (λ at. IsLoud r → new.given ≡ old.given + bytes at)
      on None given = tt
      on (Some at) given = λ loud. given tt

  -- a refusal is passed on
  pub asks_fails : (e : Refusal) (r : Result B Refusal) → IsErrAnd r (λ f. f ≡ e) → Asks {A = A} files bytes Missing old new (Err e) → Asks files bytes Missing old new r
  asks_fails e (Ok x) is a = absurd is
  asks_fails e (Err f) is a = record { given = on files a.given; strays = a.strays }
    where
      on : (files : Option Files) → IfSome files (λ at. IsLoud {A = A} (Err e) → new.given ≡ old.given + bytes at)
          → IfSome files (λ at. IsLoud {A = B} (Err f) → new.given ≡ old.given + bytes at)
      on None given = tt
      on (Some at) given = λ loud. given (subst (λ g. is_silent g ≡ false) is loud)

-- one read
module _ {A : Type 0} (name : List ℕ) (most : ℕ) (old new : DepotView) (r : Result A Refusal) where
  -- it gave bytes
  pub asks_read : (files : Option Files) (given : List ℕ) → IfSome files (λ at. IsReading at name most given) → new.given ≡ old.given + length given
      → IfSome files (λ at. CountsStray at name old.strays new.strays) → Asks files (λ at. handed_out most (at name)) (λ at. at name ≡ None) old new r
  asks_read None given reading rose stray = record { given = tt; strays = tt }
  asks_read (Some at) given (file, is, are) rose stray =
      let many = ap length are ∙ length-take (most + 1) file in
      record {
        given = λ loud. rose ∙ ap (λ n. old.given + n) (many ∙ ap (handed_out most) (sym is));
        strays = λ there. rw is at stray;
      }

  -- it gave none
  pub asks_none : (files : Option Files) → (IsLoud r → ⊥) → IfSome files (λ at. CountsStray at name old.strays new.strays)
      → Asks files (λ at. handed_out most (at name)) (λ at. at name ≡ None) old new r
  asks_none None silent stray = record { given = tt; strays = tt }
  asks_none (Some at) silent stray = record { given = λ loud. absurd (silent loud); strays = λ there. known (at name) refl there }
    where
      known : (held : Option (List ℕ)) → at name ≡ held → (at name ≡ None → ⊥) → new.strays ≡ old.strays
      known None is there = absurd (there is)
      known (Some file) is there = rw is at stray

-- the programs were read, so far as nothing refused them
pub asks_programs : {A X : Type 0} (files : Option Files) (c : Configuration) (old new : DepotView) (l : Result X LoadFault) (r : Result A Refusal)
    → (IsLoud r → (k : ℕ) → CountsReads l old.given new.given k → new.given ≡ old.given + k)
    → IfSome files (λ at. CountsReads l old.given new.given (bytes_read at c.processes))
    → IfSome files (λ at. (loading at c ≡ Err fault.Depot → ⊥) → new.strays ≡ old.strays)
    → Asks files (λ at. bytes_read at c.processes) (λ at. loading at c ≡ Err fault.Depot) old new r
asks_programs None c old new l r counts counted stray = record { given = tt; strays = tt }
asks_programs (Some at) c old new l r counts counted stray = record { given = λ loud. counts loud (bytes_read at c.processes) counted; strays = stray }

-- the second part of a command is asked for where the first comes to something
pub asks_after : {A B X : Type 0} (outcome : Files → Result X Refusal) (first : Files → ℕ) (FirstMisses : Files → Type 0) (more : Files → X → ℕ)
    (Missing : Files → X → Type 0) (old mid new : DepotView) (r : Result A Refusal) (files : Option Files) (b : B) (x : X)
    → Asks files first FirstMisses old mid (Ok b) → IfSome files (λ at. outcome at ≡ Ok x) → ((at : Files) → FirstMisses at → outcome at ≡ Err why.Depot)
    → Asks files (λ at. more at x) (λ at. Missing at x) mid new r
    → Asks files (λ at. first at + handed_after (more at) (outcome at)) (λ at. MissesAfter (Missing at) (outcome at)) old new r
asks_after outcome first FirstMisses more Missing old mid new r None b x a is missed next = record { given = tt; strays = tt }
asks_after outcome first FirstMisses more Missing old mid new r (Some at) b x a is missed next = record {
  given = λ loud.
      let much = ap (handed_after (more at)) is in
      let one = a.given tt in
      let two = next.given loud in
      omega (arith, one, two, much);
  strays = λ there.
      next.strays (λ missing. there (subst (MissesAfter (Missing at)) (sym is) missing))
      ∙ a.strays (λ missing. (let bad = sym is ∙ missed at missing in cc));
}

-- the counts are those of the words
pub asked_given : {A : Type 0} (files : Option Files) (bytes : Files → ℕ) (Missing : Files → Type 0) (old new : DepotView) (r : Result A Refusal) (P : Type 0)
    → Asks files bytes Missing old new r → (P → IsLoud r) → IfSome files (λ at. P → new.given ≡ old.given + bytes at)
asked_given None bytes Missing old new r P a loud = tt
asked_given (Some at) bytes Missing old new r P a loud = λ p. a.given (loud p)
