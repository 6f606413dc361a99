-- The marks of what a configuration promises of a main's window: by when it begins and by when it is done.
use Rattle.std.specs.Prelude.{ℕ, ◌+◌, ◌++◌, ◌==◌, [], List, Option, Some, None, codes, decimal, if◌then◌else◌, length, slice_get}
use Rattle.dk_ledger.specs.Heading.{Heading}
use Rattle.dk_ledger.specs.LineText.{thread_text}
use Rattle.dk_picture.specs.declared.frame.Frame.{Frame}
use Rattle.dk_picture.specs.declared.promise.Bound.{Bound}
use Rattle.dk_picture.specs.declared.shares.Share.{Share}
use Rattle.dk_picture.specs.declared.span.Span.{Span}
use Rattle.dk_picture.specs.Frames.{top_of}
use Rattle.dk_picture.specs.Marks.{mark_line, titled}
use Rattle.dk_picture.specs.Places.{place_of}
use Rattle.dk_picture.specs.Scenes.{Scene}
use Rattle.dk_picture.specs.Waits.{main_of}

-- a triangle that goes on from the mark's place, and one that ends there
abbrev pub begins_outline : List ℕ
begins_outline = codes "l5 3l-5 3z"

abbrev pub done_outline : List ℕ
done_outline = codes "l-5 3l5 3z"

abbrev pub begins_words : ℕ → List ℕ
begins_words n = codes "begins by " ++ decimal n

abbrev pub done_words : ℕ → List ℕ
done_words n = codes "done by " ++ decimal n

-- where tick t begins, below the line of the window
abbrev pub promise_mark : Frame → Span → Share → ℕ → List ℕ → List ℕ → List ℕ
promise_mark f s d t outline title = mark_line (codes "e") (place_of s t) (top_of f d.row + 14) outline title

abbrev pub promise_title : Heading → Share → ℕ → List ℕ → List ℕ
promise_title h d t words = titled t (thread_text h (main_of d.process)) words

abbrev pub begins_mark : Heading → Frame → Span → Share → Bound → List ℕ
begins_mark h f s d b = promise_mark f s d (d.first + b.begins) begins_outline
    (promise_title h d (d.first + b.begins) (begins_words b.begins))

abbrev pub done_mark : Heading → Frame → Span → Share → Bound → List ℕ
done_mark h f s d b = promise_mark f s d (d.first + b.done) done_outline
    (promise_title h d (d.first + b.done) (done_words b.done))

abbrev pub bound_marks : Heading → Frame → Span → Share → Bound → List ℕ
bound_marks h f s d b = begins_mark h f s d b ++ done_mark h f s d b

abbrev pub marks_of_bound : Heading → Frame → Span → Share → Option Bound → List ℕ
marks_of_bound h f s d None = []
marks_of_bound h f s d (Some b) = bound_marks h f s d b

-- where a configuration promises something of it
abbrev pub promise_marks : Heading → Frame → Span → Scene → Share → List ℕ
promise_marks h f s c d = marks_of_bound h f s d (slice_get c.promised.bounds d.process)

-- what the marks stand for, where there are such
abbrev pub promise_key : List ℕ
promise_key = codes "<path class='e' d='M1104 29l5 3l-5 3z'/><text x='1114' y='36'>begins by</text>\n"
    ++ codes "<path class='e' d='M1209 29l-5 3l5 3z'/><text x='1214' y='36'>done by, in every run</text>\n"

abbrev pub key_text : Scene → List ℕ
key_text c = if length c.promised.bounds == 0 then [] else promise_key
