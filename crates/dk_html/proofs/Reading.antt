-- A text is read back from the bytes that show it.
use Rattle.std.proofs.Common.{◌≡◌, ◌∙◌, ◌++◌, ◌==◌, ◌<◌, ℕ, List, [], ◌∷◌, length, refl, sym, ap, arith, length-append}
use Rattle.std.proofs.lemmas.List.{append_cancel_left}
use Rattle.std.specs.Prelude.{if◌then◌else◌, slice_index}
use Rattle.dk_html.specs.Escaping.{escaped, escaped_byte}

-- the byte of a name, by the letter behind its `&`
abbrev named : ℕ → ℕ
named b = if b == 97 then 38 else (if b == 108 then 60 else (if b == 103 then 62 else (if b == 35 then 13 else 34)))

-- the byte that is shown first
abbrev first_read : List ℕ → ℕ
first_read [] = 0
first_read (b ∷ rest) = if b == 38 then (named (slice_index rest 0)) else b

first_is : (b : ℕ) (rest : List ℕ) → first_read (escaped_byte b ++ rest) ≡ b
first_is b rest = grind arith

shown_by_some : (b : ℕ) → 0 < length (escaped_byte b)
shown_by_some b = grind arith

no_nothing : (b : ℕ) (rest : List ℕ) → escaped_byte b ++ rest ≡ [] → ⊥
no_nothing b rest e =
    let count = ap length e in
    omega (arith, count, length-append (escaped_byte b) rest, shown_by_some b)

pub read_back : (s t : List ℕ) → escaped s ≡ escaped t → s ≡ t
read_back [] [] e = refl
read_back [] (b ∷ t) e = absurd (no_nothing b (escaped t) (sym e))
read_back (a ∷ s) [] e = absurd (no_nothing a (escaped s) e)
read_back (a ∷ s) (b ∷ t) e =
    let same : a ≡ b = sym (first_is a (escaped s)) ∙ ap first_read e ∙ first_is b (escaped t) in
    let rest : escaped_byte a ++ escaped s ≡ escaped_byte a ++ escaped t = e ∙ ap (λ k. escaped_byte k ++ escaped t) (sym same) in
    ap (λ r. a ∷ r) (read_back s t (append_cancel_left (escaped_byte a) (escaped s) (escaped t) rest)) ∙ ap (λ k. k ∷ t) same
