use Rattle.dk_show_request.proofs.SimpleApps.{found_named}
use Rattle.dk_show_request.proofs.forms.form_named.Goals as goal

pub returns-clause-simple : goal.returns-clause-simple
returns-clause-simple c = found_named c.meant.result.now c.found.result c.found.ensures
