-- Text and elements as XML writes them (XML 1.0, section 2.4).
use Rattle.std.specs.Prelude.{ℕ, ◌==◌, if◌then◌else◌, List, [], ◌∷◌, ◌++◌, codes}

-- a byte of a text as XML writes it: `&`, `<` and `>` have names
abbrev pub escaped_byte : ℕ → List ℕ
escaped_byte byte =
    if byte == 38 then codes "&amp;" else if byte == 60 then codes "&lt;" else if byte == 62 then codes "&gt;" else byte ∷ []

abbrev pub escaped : List ℕ → List ℕ
escaped [] = []
escaped (byte ∷ bytes) = escaped_byte byte ++ escaped bytes

abbrev pub opening : List ℕ → List ℕ
opening name = codes "<" ++ (name ++ codes ">")

abbrev pub closing : List ℕ → List ℕ
closing name = codes "</" ++ (name ++ codes ">\n")

-- an element that holds a text, on a line of its own
abbrev pub element : List ℕ → List ℕ → List ℕ
element name text = opening name ++ (escaped text ++ closing name)
