use Rattle.dk_loader.proofs.Rows.{list_any-map, keys_of-members_view}
use Rattle.dk_needs.proofs.look.has_stranger.Goals as goal

pub returns : goal.returns
returns c = simp (keys_of-members_view, list_any-map) (simp list_any-map at c.any_stranger.ensures)
