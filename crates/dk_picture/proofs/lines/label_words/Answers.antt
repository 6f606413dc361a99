use Rattle.dk_picture.proofs.Names.{string_bytes}
use Rattle.dk_picture.proofs.Adding.{same_text}
use Rattle.dk_picture.proofs.LabelParts.{label_is}
use Rattle.dk_picture.proofs.lines.label_words.Goals as goal

pub returns : goal.returns
returns c = same_text string_bytes c.label_parts.result _ _ (label_is c.args.header.now c.args.label) c.label_parts.ensures
