-- Which lists a text spells.
use Rattle.std.specs.Prelude.{◌≡◌, ℕ, ◌<◌, ◌⊎◌, List, [], ◌∷◌, ◌++◌, length, flat_map}
use Rattle.rc_base.specs.Token.{Token, offset_of, tokens}
use Rattle.rc_base.specs.Tree.{Tree, word, list, spelling, IsSound}

-- the tree is a list, and has at most 64 lists open at one place, itself among them
abbrev pub IsTopList : Tree → Type 0
IsTopList (word bytes from to) = ⊥
IsTopList (list parts from to) = IsSound 64 (list parts from to)

abbrev pub AreTopLists : List Tree → Type 0
AreTopLists [] = Unit {0}
AreTopLists (form ∷ forms) = IsTopList form × AreTopLists forms

-- where the first of these tokens begins, or the text's end where there is none
abbrev pub next_offset : List Token → ℕ → ℕ
next_offset [] end = end
next_offset (token ∷ tokens) end = offset_of token

-- The text's first tokens are those of the wanted number of top-level lists, and `rest` is where the next token begins;
-- or all its tokens are those of fewer lists, and `rest` is its length.
pub record Spelled (text : List ℕ) (want : ℕ) (forms : List Tree) (rest : ℕ) : Type 0 where
  pub later : List Token
  pub spells : tokens text ≡ flat_map spelling forms ++ later
  pub sound : AreTopLists forms
  pub enough : (length forms ≡ want) ⊎ ((length forms < want) × (later ≡ []))
  pub behind : rest ≡ next_offset later (length text)
