-- Elements of a picture. Names, numbers and words need no escapes.
use Rattle.std.specs.Prelude.{ℕ, ◌++◌, List, codes, decimal}
use Rattle.dk_picture.specs.declared.elements.Place.{Place}

-- a rectangle up to its end
unfoldable pub rect_head : List ℕ → Place → List ℕ
rect_head class p = codes "<rect class='"
    ++ (class ++ (codes "' x='" ++ (decimal p.x ++ (codes "' y='" ++ (decimal p.y ++ (codes "' width='"
    ++ (decimal p.width ++ (codes "' height='" ++ (decimal p.height ++ codes "'")))))))))

unfoldable pub rect : List ℕ → Place → List ℕ
rect class p = codes "<rect class='"
    ++ (class ++ (codes "' x='" ++ (decimal p.x ++ (codes "' y='" ++ (decimal p.y ++ (codes "' width='"
    ++ (decimal p.width ++ (codes "' height='" ++ (decimal p.height ++ codes "'/>\n")))))))))

-- a rectangle that tells its title to the pointer
unfoldable pub titled_rect : List ℕ → Place → List ℕ → List ℕ
titled_rect class p title = rect_head class p ++ (codes "><title>" ++ (title ++ codes "</title></rect>\n"))

-- words that begin there, or of class `x` end there
unfoldable pub words_at : List ℕ → ℕ → ℕ → List ℕ → List ℕ
words_at class x y words = codes "<text class='"
    ++ (class ++ (codes "' x='" ++ (decimal x ++ (codes "' y='" ++ (decimal y ++ (codes "'>"
    ++ (words ++ codes "</text>\n")))))))
