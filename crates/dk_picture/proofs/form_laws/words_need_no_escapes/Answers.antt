use Rattle.dk_picture.proofs.Plain.{all_plain}
use Rattle.dk_picture.proofs.form_laws.words_need_no_escapes.Goals as goal

pub returns : goal.returns
returns c = all_plain
