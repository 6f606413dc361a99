-- Texts of lines one after another, each by the lines before it.
use Rattle.std.specs.Prelude.{ℕ, ◌++◌, [], ◌∷◌, List}
use Rattle.dk_ledger.specs.declared.line.LedgerLine.{LedgerLine}

-- of these lines, which stand behind others
abbrev pub texts_behind : (List LedgerLine → LedgerLine → List ℕ) → List LedgerLine → List LedgerLine → List ℕ
texts_behind f before [] = []
texts_behind f before (l ∷ ls) = f before l ++ texts_behind f (before ++ l ∷ []) ls
