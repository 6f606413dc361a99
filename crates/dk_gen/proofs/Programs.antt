-- Each process of a workload has a program, and a short one.
use Rattle.std.proofs.Common.{subst, sym, add_assoc, append_assoc, append-nil, ◌≡◌, ◌≤◌, ◌+◌, ◌*◌, ◌++◌, ◌∙◌, ap, ℕ, zero, suc, List, [], ◌∷◌, length, map, arith, refl}
use Rattle.std.specs.Prelude.{All, flat_map}
use Rattle.dk_config.specs.declared.TheConstants.{MAX_PROGRAM_BYTES}
use Rattle.dk_config.specs.Sums.{numbers, below}
use Rattle.dk_gen.specs.declared.templates.Template.{Template}
use Rattle.dk_gen.specs.declared.templates.Template.TheVariants.{Spin, Wait, Slack, Random, Parent}
use Rattle.dk_gen.specs.Draws.{state}
use Rattle.dk_gen.specs.Templates.{program_of, random_program, random_word}
use Rattle.dk_gen.proofs.Stream.{draw_later}

pub program_short : (template : Template) (number place : ℕ) → length (program_of template number place) ≤ MAX_PROGRAM_BYTES
unfolding random_program
program_short Spin number place = omega arith
program_short Wait number place = omega arith
program_short Slack number place = omega arith
program_short Random number place = omega arith
program_short Parent number place = omega arith

-- the program of a template whose draws begin at a later state
pub word_later : (number a b c : ℕ) → a + b ≡ c → random_word (state number a) b ≡ random_word number c
word_later number a b c is =
    let P : ℕ → Type 0 = λ p. random_word (state number a) b ≡ random_word number p in
    subst P is (rw (draw_later number a b 23, draw_later number a (b + 1) 8, draw_later number a (b + 2) 8, draw_later number a (b + 3) 8)
    (rw (sym (add_assoc a b 1), sym (add_assoc a b 2), sym (add_assoc a b 3))))

same_words : (f g : ℕ → List ℕ) (is : List ℕ) → ((i : ℕ) → f i ≡ g i) → flat_map f is ≡ flat_map g is
same_words f g [] same = refl
same_words f g (i ∷ is) same = rw (same i, same_words f g is same)

random_later : (number a b : ℕ) → random_program (state number a) b ≡ random_program number (a + b)
unfolding random_program
random_later number a b = same_words _ _ (below 32) (λ i. word_later number a (b + 4 * i) (a + b + 4 * i) (omega arith))

pub program_later : (template : Template) (number a b : ℕ) → program_of template (state number a) b ≡ program_of template number (a + b)
program_later Spin number a b = refl
program_later Wait number a b = refl
program_later Slack number a b = rw (draw_later number a b 1000)
program_later Random number a b = random_later number a b
program_later Parent number a b = rw (draw_later number a b 4)

-- one drawn word more
pub words_more : (f : ℕ → List ℕ) (low n : ℕ) → flat_map f (numbers low (suc n)) ≡ flat_map f (numbers low n) ++ f (low + n)
words_more f low zero = append-nil (f low) ∙ ap f (omega arith)
words_more f low (suc n) =
    let same : f (suc low + n) ≡ f (low + suc n) = ap f (omega arith) in
    ap (λ rest. f low ++ rest) (words_more f (suc low) n ∙ ap (λ last. flat_map f (numbers (suc low) n) ++ last) same)
    ∙ sym (append_assoc (f low) (flat_map f (numbers (suc low) n)) (f (low + suc n)))

pub all_rows : {A : Type 0} (P : A → Type 0) (f : ℕ → A) (low n : ℕ) → ((k : ℕ) → P (f k)) → All P (map f (numbers low n))
all_rows P f low zero each k d inside = absurd (omega arith)
all_rows P f low (suc n) each zero d inside = each low
all_rows P f low (suc n) each (suc k) d inside = all_rows P f (suc low) n each k d (omega arith)
