use Rattle.std.proofs.Common.{refl, append_assoc}
use Rattle.dk_html.specs.Checksums.{file_row}
use Rattle.dk_html.proofs.checksums.add_file.Goals as goal

pub returns : goal.returns
unfolding file_row
returns c =
    simp (c.in_ok-add_string-2.ensures, c.in_ok-file_end.ensures, c.as_str.ensures.value, c.in_ok-digest.ensures, c.in_ok-add_escaped.ensures, c.in_ok-add_string.ensures, c.in_ok-file_start.ensures, append_assoc) refl
