-- Texts of lines one after another, with one line more, and of all lines.
use Rattle.std.proofs.Common.{ℕ, ◌≡◌, ◌∙◌, ◌++◌, [], ◌∷◌, List, ap, sym, append_assoc, append-nil}
use Rattle.std.specs.Prelude.{Option, Some, None, slice_get}
use Rattle.dk_ledger.specs.declared.line.LedgerLine.{LedgerLine}
use Rattle.dk_ledger.specs.Readable.{Journal, IsReadable}
use Rattle.dk_groups.specs.Groups.{groups}
use Rattle.dk_groups.specs.Cutting.{Cutting, ComesNext}
use Rattle.dk_groups.proofs.NextLine.{groups_in_order}
use Rattle.dk_groups.proofs.Texts.{all_texts}
use Rattle.dk_trace_events.specs.Texts.{texts_behind}

module _ (f : List LedgerLine → LedgerLine → List ℕ) where
  rest_behind : (before ls ms : List LedgerLine) → texts_behind f before (ls ++ ms) ≡ texts_behind f before ls ++ texts_behind f (before ++ ls) ms
  rest_behind before [] ms = ap (λ b. texts_behind f b ms) (sym (append-nil before))
  rest_behind before (l ∷ ls) ms =
      ap (λ t. f before l ++ t) (rest_behind (before ++ l ∷ []) ls ms)
      ∙ ap (λ b. f before l ++ (texts_behind f (before ++ l ∷ []) ls ++ texts_behind f b ms)) (append_assoc before (l ∷ []) ls)
      ∙ sym (append_assoc (f before l) (texts_behind f (before ++ l ∷ []) ls) (texts_behind f (before ++ l ∷ ls) ms))

  -- one line more
  pub one_behind : (ls : List LedgerLine) (l : LedgerLine) → texts_behind f [] (ls ++ l ∷ []) ≡ texts_behind f [] ls ++ f ls l
  one_behind ls l = rest_behind [] ls (l ∷ []) ∙ ap (λ t. texts_behind f [] ls ++ t) (append-nil (f ls l))

  pub all_behind : (j : Journal) (ls : List LedgerLine) (l : LedgerLine) (c : Cutting) (lo to : ℕ) → IsReadable j → ComesNext j ls (Some l) c → c.from ≡ lo → c.to ≡ to
      → (more : List ℕ) × (texts_behind f [] (groups lo to j.entries) ≡ texts_behind f [] ls ++ (f ls l ++ more))
  all_behind j ls l c lo to readable comes is_from is_to = all_texts (texts_behind f []) (texts_behind f) (rest_behind []) j ls l (f ls l) c lo to readable comes is_from is_to (one_behind ls l)

-- the line that comes first is the first of all
pub first_is : (j : Journal) (first : Option LedgerLine) (c : Cutting) → IsReadable j → ComesNext j [] first c → slice_get (groups c.from c.to j.entries) 0 ≡ first
first_is j None c readable all = ap (λ gs. slice_get gs 0) (sym all)
first_is j (Some l) c readable comes = ap (λ gs. slice_get gs 0) (groups_in_order j (l ∷ []) c readable comes.0).1
