-- In which form the profile in a file is written.
use Rattle.std.specs.Prelude.{ℕ, ◌-◌, ◌==◌, ◌&&◌, nat_le, Bool, if◌then◌else◌, List, length, slice_index}
use Rattle.dk_times.specs.declared.form.Form.{Form}

-- a name that ends with `.csv`
abbrev pub is_table_name : List ℕ → Bool
is_table_name file =
    nat_le 4 (length file)
    && (slice_index file (length file - 4) == 46
    && (slice_index file (length file - 3) == 99
    && (slice_index file (length file - 2) == 115 && slice_index file (length file - 1) == 118)))

abbrev pub form_of : List ℕ → Form
form_of file = if is_table_name file then Form.Table else Form.Text
