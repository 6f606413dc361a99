use Rattle.dk_loader.proofs.Names.{is_utf8-from_IsUtf8, IsUtf8-string_bytes}
use Rattle.dk_loader.specs.Reading.{document}
use Rattle.dk_loader.proofs.writing.printed.Goals as goal

pub returns-in-Ok : goal.returns-in-Ok
unfolding document
returns-in-Ok c = rw (c.into_bytes.ensures.value, is_utf8-from_IsUtf8 _ (IsUtf8-string_bytes c.in-Ok.text)) (c.in-Ok.ensures.reads_back c.requires)
