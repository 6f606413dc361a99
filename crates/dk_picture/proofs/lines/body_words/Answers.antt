use Rattle.dk_picture.proofs.Names.{ℕ, List, ◌≡◌, ◌++◌, append_assoc, sym, codes, string_bytes}
use Rattle.std.proofs.Common.{decimal}
use Rattle.dk_picture.proofs.Adding.{same_text}
use Rattle.dk_picture.proofs.lines.body_words.Goals as goal

regroup : (a b c d e f : List ℕ) → a ++ (b ++ (c ++ (d ++ (e ++ f)))) ≡ ((((a ++ b) ++ c) ++ d) ++ e) ++ f
regroup a b c d e f = sym (simp append_assoc)

pub returns : goal.returns
returns c = same_text string_bytes c.body_parts.result _ _ (regroup (decimal c.args.start) (codes " ") (decimal c.args.count) (codes " ") c.args.label.now c.args.event.now) c.body_parts.ensures
