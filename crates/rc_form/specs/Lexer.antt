-- The tokens of what is left of a text.
use Rattle.std.specs.Prelude.{ℕ, Bool, not, ◌||◌, ◌==◌, List, drop}
use Rattle.rc_base.specs.Token.{Token, between, tokens_from, is_blank}

-- the tokens behind this offset, where no atom and no comment is cut
abbrev pub tokens_at : List ℕ → ℕ → List Token
tokens_at text at = tokens_from between at (drop at text)

-- the byte begins a token where it stands in no comment
abbrev pub begins_token : ℕ → Bool
begins_token byte = not (is_blank byte || byte == 59)
