use Rattle.std.specs.Prelude.{string_bytes}
use Rattle.dk_picture.proofs.Adding.{same_added}
use Rattle.dk_picture.proofs.Legends.{head_is}
use Rattle.dk_picture.proofs.whole.add_head.Goals as goal

pub returns : goal.returns
returns c = same_added c.push_words.result (string_bytes c.args.text.now) (string_bytes c.push_words.new.text) _ _ head_is c.push_words.ensures
