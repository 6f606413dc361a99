-- A label is what its ticks are for, and its thread.
use Rattle.dk_picture.proofs.Names.{◌≡◌, ◌++◌, arith, append_assoc, Label, thread_of, Heading, label_text, parted, work_words, thread_part}
use Rattle.std.proofs.Common.{append-nil}

pub label_is : (h : Heading) (label : Label) → parted 32 (work_words label) ++ thread_part h (thread_of label) ≡ label_text h label
label_is h label = grind (arith, append_assoc, append-nil)
