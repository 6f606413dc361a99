use Rattle.dk_html.proofs.Reading.{read_back}
use Rattle.dk_html.proofs.laws.escaped_once.Goals as goal

pub returns : goal.returns
returns c = read_back
