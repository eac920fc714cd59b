-- Which keyword a word spells.
use Rattle.std.specs.Prelude.{ℕ, ◌==◌, if◌then◌else◌, List, [], ◌∷◌, find, Option, None}
use Rattle.rc_check.specs.Faults.{is_word}
use Rattle.rc_check.specs.declared.keyword.Keyword.{Keyword}
use Rattle.rc_check.specs.declared.keyword.Keyword.TheVariants as keyword

-- the keywords that begin with this byte
abbrev pub keywords_from : ℕ → List Keyword
keywords_from byte =
    if byte == 33 then keyword.NotEqual ∷ [] else
    if byte == 42 then keyword.Times ∷ [] else
    if byte == 43 then keyword.Plus ∷ [] else
    if byte == 45 then keyword.Minus ∷ [] else
    if byte == 60 then keyword.Less ∷ keyword.LessOrEqual ∷ [] else
    if byte == 61 then keyword.Equal ∷ [] else
    if byte == 62 then keyword.More ∷ keyword.MoreOrEqual ∷ [] else
    if byte == 97 then keyword.All ∷ keyword.And ∷ keyword.Attr ∷ keyword.Any ∷ [] else
    if byte == 98 then keyword.Bottom ∷ [] else
    if byte == 99 then keyword.Current ∷ keyword.Cycle ∷ keyword.Choice ∷ keyword.Create ∷ [] else
    if byte == 100 then keyword.Do ∷ keyword.Dec ∷ keyword.Deck ∷ [] else
    if byte == 101 then keyword.End ∷ [] else
    if byte == 102 then keyword.Filter ∷ keyword.Forget ∷ [] else
    if byte == 103 then keyword.Game ∷ [] else
    if byte == 104 then keyword.Hloc ∷ [] else
    if byte == 105 then keyword.If ∷ keyword.Inc ∷ keyword.Is ∷ keyword.Iloc ∷ [] else
    if byte == 107 then keyword.Known ∷ [] else
    if byte == 109 then keyword.Move ∷ keyword.Max ∷ keyword.Min ∷ keyword.Mem ∷ [] else
    if byte == 110 then keyword.Not ∷ keyword.Next ∷ [] else
    if byte == 111 then keyword.Or ∷ keyword.Of ∷ [] else
    if byte == 112 then keyword.Points ∷ keyword.Peek ∷ keyword.Partition ∷ keyword.Put
    ∷ keyword.Player ∷ keyword.Players ∷ [] else
    if byte == 114 then keyword.Repeat ∷ keyword.Remember ∷ keyword.Reverse ∷ [] else
    if byte == 115 then keyword.Size ∷ keyword.Set ∷ keyword.Sum ∷ keyword.Stage
    ∷ keyword.Shuffle ∷ keyword.Scoring ∷ keyword.Setup ∷ keyword.Sto ∷ [] else
    if byte == 116 then keyword.Top ∷ keyword.Team ∷ keyword.Teams ∷ [] else
    if byte == 117 then keyword.Union ∷ keyword.Using ∷ [] else
    if byte == 118 then keyword.Vloc ∷ [] else
    []

-- the first of these keywords that a word spells
abbrev pub keyword_among : List Keyword → List ℕ → Option Keyword
keyword_among keywords bytes = find (λ keyword. is_word keyword bytes) keywords

-- the keyword that a word spells
abbrev pub keyword_of : List ℕ → Option Keyword
keyword_of [] = None
keyword_of (byte ∷ bytes) = keyword_among (keywords_from byte) (byte ∷ bytes)
