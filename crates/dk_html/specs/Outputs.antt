-- What a command writes, behind its words.
use Rattle.std.specs.Prelude.{ℕ, List, ◌++◌, codes}
use Rattle.dk_html.specs.Escaping.{escaped}

-- the words of a command and the names of its files, which open what it writes
unfoldable pub output : List ℕ → List ℕ → List ℕ → List ℕ
output command name text =
    codes "<details><summary><code>" ++ (command ++ (escaped name
    ++ (codes "</code></summary><pre tabindex=\"0\">\n" ++ (escaped text ++ codes "</pre></details>\n"))))
