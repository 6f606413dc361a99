-- Texts that are put together piece by piece, taken apart from the left.
use Rattle.std.proofs.Common.{ℕ, ◌≡◌, ◌∙◌, ◌++◌, [], ◌∷◌, List, ap, refl, append_assoc, codes}
use Rattle.std.specs.Prelude.{decimal}

pub data Piece : Type 0 where
  bytes : List ℕ → Piece
  place : ℕ → ℕ → Piece

abbrev place_text : ℕ → ℕ → List ℕ
place_text pid tid = codes ",\"pid\":" ++ decimal pid ++ codes ",\"tid\":" ++ decimal tid

abbrev piece_text : Piece → List ℕ
piece_text (bytes s) = s
piece_text (place pid tid) = place_text pid tid

-- behind some text, from left to right
abbrev pub glued : List ℕ → List Piece → List ℕ
glued s [] = s
glued s (p ∷ ps) = glued (s ++ piece_text p) ps

-- before some text
abbrev pub spread : List Piece → List ℕ → List ℕ
spread [] r = r
spread (bytes s ∷ ps) r = s ++ spread ps r
spread (place pid tid ∷ ps) r = codes ",\"pid\":" ++ (decimal pid ++ (codes ",\"tid\":" ++ (decimal tid ++ spread ps r)))

place_apart : (pid tid : ℕ) (r : List ℕ) → place_text pid tid ++ r ≡ codes ",\"pid\":" ++ (decimal pid ++ (codes ",\"tid\":" ++ (decimal tid ++ r)))
place_apart pid tid r = apart (codes ",\"pid\":") (decimal pid) (codes ",\"tid\":") (decimal tid)
  where
    apart : (a b c d : List ℕ) → (((a ++ b) ++ c) ++ d) ++ r ≡ a ++ (b ++ (c ++ (d ++ r)))
    apart a b c d = append_assoc ((a ++ b) ++ c) d r ∙ append_assoc (a ++ b) c (d ++ r) ∙ append_assoc a b (c ++ (d ++ r))

pub taken_apart : (s : List ℕ) (ps : List Piece) (r : List ℕ) → glued s ps ++ r ≡ s ++ spread ps r
taken_apart s [] r = refl
taken_apart s (bytes t ∷ ps) r = taken_apart (s ++ t) ps r ∙ append_assoc s t (spread ps r)
taken_apart s (place pid tid ∷ ps) r =
    taken_apart (s ++ place_text pid tid) ps r ∙ append_assoc s (place_text pid tid) (spread ps r) ∙ ap (λ x. s ++ x) (place_apart pid tid (spread ps r))

-- where a text that isn't taken apart stands first
pub behind_apart : (a s t : List ℕ) (ps : List Piece) (r : List ℕ) → (a ++ (s ++ glued t ps)) ++ r ≡ a ++ (s ++ (t ++ spread ps r))
behind_apart a s t ps r =
    append_assoc a (s ++ glued t ps) r ∙ ap (λ x. a ++ x) (append_assoc s (glued t ps) r ∙ ap (λ x. s ++ x) (taken_apart t ps r))
