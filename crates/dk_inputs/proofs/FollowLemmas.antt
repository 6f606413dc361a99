-- The parts of what a command reads and tests, one after another.
use Rattle.dk_inputs.proofs.Names.{ℕ, ◌≡◌, ◌<◌, ◌+◌, ◌∙◌, true, refl, sym, ap, subst, arith, add-zero, false≢true, ◌≢◌, Option, Some, None, Result, Ok, Err, IfSome, IsErrOf, DepotView, Refusal, is_failed_read, is_silent, Files, Reads, ◌>>=◌, done, given_more, on_found, test, Finds, Gives, Goes, Refuses, Tells}
use Rattle.dk_inputs.specs.declared.refusal.Refusal.TheVariants as why

pub some_map : {A : Type 0} (P Q : A → Type 0) (o : Option A) → ((x : A) → P x → Q x) → IfSome o P → IfSome o Q
some_map P Q None g h = tt
some_map P Q (Some x) g h = g x h

pub some_all : {A : Type 0} (P : A → Type 0) (o : Option A) → ((x : A) → P x) → IfSome o P
some_all P None g = tt
some_all P (Some x) g = g x

pub both_some : {A : Type 0} (P Q : A → Type 0) (o : Option A) → IfSome o P → IfSome o Q → IfSome o (λ x. P x × Q x)
both_some P Q None p q = tt
both_some P Q (Some x) p q = (p, q)

-- ---- what reads and tests come to

module _ {X Y : Type 0} (view : X → Y) where
  told_test : (r : Result X Refusal) (t : Result Y Refusal) (n : ℕ) → Gives view r t → Tells (λ x y. y ≡ view x) (λ y e. ⊥) r (test t) n n
  told_test (Ok x) t n gives = (view x, gives, refl, sym (add-zero n))
  told_test (Err e) t n gives = λ quiet. (let is : t ≡ Err e = gives.1 quiet in subst (λ u. Refuses {X = X} (λ x y. y ≡ view x) (λ y d. ⊥) u e) (sym is) refl, sym (add-zero n))

  no_failed_read : (r : Result X Refusal) (t : Result Y Refusal) (e : Refusal) → is_failed_read e ≡ true → Gives view r t → IsErrOf r e → ⊥
  no_failed_read (Ok x) t e early gives is = cc
  no_failed_read (Err d) t e early gives is = false≢true (sym gives.0 ∙ ap is_failed_read (let same : d ≡ e = cc in same) ∙ early)

-- what a part finds: what it should, and no refusal but those of its tests
abbrev pub Same : {X Y : Type 0} → (X → Y) → X → Y → Type 0
Same view x y = y ≡ view x

abbrev pub Never : {Y : Type 0} → Y → Refusal → Type 0
Never y e = ⊥

module _ {Z W : Type 0} (v : Z → W) where
  -- after a part that handed out n bytes
  told_more : (r : Result Z Refusal) (t : Reads W) (a b c n : ℕ) → b ≡ a + n → Tells (Same v) Never r t b c → Tells (Same v) Never r (given_more n t) a c
  told_more (Ok x) t a b c n is (y, found, here, after) = (y, found, here, omega (arith, is, after))
  told_more (Err e) t a b c n is told = λ quiet. ((told quiet).0, let after : c ≡ b + t.given = (told quiet).1 in omega (arith, is))

  module _ {Y : Type 0} (f : Y → Reads W) where
    refused_first : (found : Result Y Refusal) (e : Refusal) → Refuses {X = Y} (λ x y. y ≡ x) (λ y d. ⊥) found e → Refuses (Same v) Never (on_found f found).found e × ((on_found f found).given ≡ 0)
    refused_first (Ok y) e never = absurd never
    refused_first (Err d) e is = (is, refl)

pub stays : (d : DepotView) → Goes d d
stays d = record { files_stay = refl; faults_rise = omega arith; given_rises = omega arith; strays_rise = omega arith }

pub goes_on : (a b c : DepotView) → Goes a b → Goes b c → Goes a c
goes_on a b c g h = record {
  files_stay = h.files_stay ∙ g.files_stay;
  faults_rise = omega (arith, g.faults_rise, h.faults_rise);
  given_rises = omega (arith, g.given_rises, h.given_rises);
  strays_rise = omega (arith, g.strays_rise, h.strays_rise);
}

-- a part that reads nothing
pub tested : {X Y : Type 0} (view : X → Y) (d : DepotView) (r : Result X Refusal) (t : Result Y Refusal) → Gives view r t → Finds view d d r (λ at. test t)
tested view d r t gives = record {
  told = some_all _ d.files (λ at. told_test view r t d.given gives);
  cause = λ is. absurd (no_failed_read view r t why.Depot refl gives is);
  faults_stay = λ other. refl;
  held = some_all _ d.files (λ at apart. refl);
  left = stays d;
}

module _ {Z W : Type 0} (v : Z → W) where
  -- the last part
  pub made : (d : DepotView) (x : Z) (y : W) → y ≡ v x → Finds v d d (Ok x) (λ at. done y)
  made d x y is = record {
    told = some_all _ d.files (λ at. (y, refl, is, sym (add-zero d.given)));
    cause = λ failed. absurd (cc);
    faults_stay = λ other. refl;
    held = some_all _ d.files (λ at apart. refl);
    left = stays d;
  }

  module _ {X Y : Type 0} (view : X → Y) (s : Files → Reads Y) (f : Files → Y → Reads W) (old mid new : DepotView) where
    -- a part that was refused is the last
    pub first : (e : Refusal) → Finds view old mid (Err e) s → Finds v old mid (Err e) (λ at. s at >>= f at)
    first e one = record {
      told = some_map _ _ old.files (λ at told quiet.
          (let known = refused_first v (f at) (s at).found e (told quiet).0 in
          (known.0, let after : mid.given ≡ old.given + (s at).given = (told quiet).1 in omega (arith, known.1)))) one.told;
      cause = λ is. one.cause (let same : e ≡ why.Depot = cc in ap (λ d. Err d) same);
      faults_stay = λ other. one.faults_stay (λ is. other (let same : e ≡ why.Depot = cc in ap (λ d. Err d) same));
      held = some_map _ _ old.files (λ at held apart. held (λ is. apart (ap (λ t. (on_found (f at) t).found) is))) one.held;
      left = one.left;
    }

    -- the same, where the refusal was handed on
    pub refused : (e : Refusal) (r : Result Z Refusal) → r ≡ Err e → Finds view old mid (Err e) s → Finds v old mid r (λ at. s at >>= f at)
    refused e r is one = subst (λ t. Finds v old mid t (λ at. s at >>= f at)) (sym is) (first e one)

    -- a part, and those after it
    pub next : (x : X) (r : Result Z Refusal) → Finds view old mid (Ok x) s → Finds v mid new r (λ at. f at (view x))
        → Finds v old new r (λ at. s at >>= f at)
    next x r one rest =
        let told' : IfSome old.files (λ at. Tells (Same v) Never r (f at (view x)) mid.given new.given) = subst (λ o. IfSome o (λ at. Tells (Same v) Never r (f at (view x)) mid.given new.given)) one.left.files_stay rest.told in
        let held' : IfSome old.files (λ at. (f at (view x)).found ≢ Err why.Depot → new.strays ≡ mid.strays) =
        subst (λ o. IfSome o (λ at. (f at (view x)).found ≢ Err why.Depot → new.strays ≡ mid.strays)) one.left.files_stay rest.held in
        record {
          told = some_map _ _ old.files (λ at both.
              (let is : (s at).found ≡ Ok (view x) = both.0.1 ∙ ap (λ y. Ok y) both.0.2 in
              subst (λ found. Tells (Same v) Never r (given_more (s at).given (on_found (f at) found)) old.given new.given) (sym is) (told_more v r (f at (view x)) old.given mid.given new.given (s at).given both.0.3 both.1)))
              (both_some _ _ old.files one.told told');
          cause = λ is few. (let later : mid.faults < new.faults = rest.cause is few in omega (arith, one.left.faults_rise));
          faults_stay = λ other. rest.faults_stay other ∙ one.faults_stay (λ is. cc);
          held = some_map _ _ old.files (λ at all apart.
              (let is : (s at).found ≡ Ok (view x) = all.1.0.1 ∙ ap (λ y. Ok y) all.1.0.2 in
              let first_held : mid.strays ≡ old.strays = all.0 (λ bad. let two : Ok (view x) ≡ Err why.Depot = sym is ∙ bad in cc) in
              let rest_held : new.strays ≡ mid.strays = all.1.1 (λ bad. apart (ap (λ t. (on_found (f at) t).found) is ∙ bad)) in
              rest_held ∙ first_held))
              (both_some _ _ old.files one.held (both_some _ _ old.files one.told held'));
          left = goes_on old mid new one.left rest.left;
        }

-- a failed read or want of memory may come in place of what the reads come to
pub silently : {X Y : Type 0} (R : X → Y → Type 0) (F : Y → Refusal → Type 0) (o : Option Files) (e : Refusal) (reads : Files → Reads Y) (before after : ℕ) → is_silent e ≡ true
    → IfSome o (λ at. Tells {X = X} R F (Err e) (reads at) before after)
silently {X} R F o e reads before after silent = some_all _ o (λ at quiet. absurd (false≢true (sym quiet ∙ silent)))

-- so may want of memory before the first read
module _ {X Y : Type 0} (v : X → Y) where
  pub out_of_memory : (d : DepotView) (r : Result X Refusal) → r ≡ Err why.NoMemory → (reads : Files → Reads Y) → Finds v d d r reads
  out_of_memory d r is reads = subst (λ t. Finds v d d t reads) (sym is) (record {
    told = silently {X = X} (Same v) Never d.files why.NoMemory reads d.given d.given refl;
    cause = λ failed. absurd (cc);
    faults_stay = λ other. refl;
    held = some_all _ d.files (λ at apart. refl);
    left = stays d;
  })
