-- Spelling and reading say the same of a text.
use Rattle.std.proofs.Common.{◌≡◌, ℕ, ◌+◌, List, [], ◌++◌, length, Ok, Err, sym, ap, subst, ◌∙◌, arith}
use Rattle.std.specs.List.{flat_map}
use Rattle.rc_base.specs.Token.{Token, between, tokens, tokens_from}
use Rattle.std.proofs.Math.Seq.{drop-length}
use Rattle.std.proofs.lemmas.List.{append-nil}
use Rattle.rc_form.specs.Lexer.{tokens_at}
use Rattle.rc_base.specs.Tree.{Tree, spelling}
use Rattle.rc_base.specs.Spelled.{Spelled, next_offset}
use Rattle.rc_form.specs.Read.{Reading, read}
use Rattle.rc_form.proofs.Ascending.{Ascends-tokens_from}
use Rattle.rc_form.proofs.SpelledIsRead.{AreEnough, read-lists}
use Rattle.rc_form.proofs.ReadIsSpelled.{IsSpelled, Spells, read-spelled}

-- the value, or this one where there is none
abbrev result_or : List Tree × List Token → Reading → List Tree × List Token
result_or r (Ok x) = x
result_or r (Err fault) = r

-- what is spelled is read
pub read-Spelled : (text : List ℕ) (want : ℕ) (forms : List Tree) (rest : ℕ)
    → (s : Spelled text want forms rest) → read want [] [] (tokens text) ≡ Ok (forms, s.later)
read-Spelled text want forms rest s =
    let count : length forms ≡ 0 + length forms = omega arith in
    ap (read want [] []) s.spells ∙ read-lists want [] forms s.later s.sound (subst (λ n. AreEnough want n s.later) count s.enough)

-- what is read is spelled by the tokens
Spells-from_read : (text : List ℕ) (want : ℕ) (forms : List Tree) (later : List Token)
    → read want [] [] (tokens text) ≡ Ok (forms, later) → Spells want (tokens text) forms later
Spells-from_read text want forms later is_read =
    subst (IsSpelled want (tokens text)) is_read (read-spelled want 0 (length text) [] [] (tokens text) (Ascends-tokens_from between 0 (length text) text (omega arith)) tt tt (omega arith))

-- what is read is spelled by the text
pub Spelled-from_read : (text : List ℕ) (want : ℕ) (forms : List Tree) (later : List Token) (rest : ℕ)
    → read want [] [] (tokens text) ≡ Ok (forms, later) → rest ≡ next_offset later (length text)
    → Spelled text want forms rest
Spelled-from_read text want forms later rest is_read behind =
    let spelled = Spells-from_read text want forms later is_read in
    record { later = later; spells = spelled.spells; sound = spelled.sound; enough = spelled.enough; behind = behind }

-- where nothing follows, the lists are the whole text
pub tokens-all : (text : List ℕ) (want : ℕ) (forms : List Tree) (rest : ℕ)
    → read want [] [] (tokens text) ≡ Ok (forms, tokens_at text rest) → rest ≡ length text
    → tokens text ≡ flat_map spelling forms
tokens-all text want forms rest is_read at_end =
    let nothing : tokens_at text rest ≡ [] = ap (tokens_at text) at_end ∙ ap (tokens_from between (length text)) (drop-length text) in
    (Spells-from_read text want forms (tokens_at text rest) is_read).spells ∙ ap (λ later. flat_map spelling forms ++ later) nothing ∙ append-nil (flat_map spelling forms)

-- nothing else is spelled
pub Spelled-unique : (text : List ℕ) (want : ℕ) (forms : List Tree) (later : List Token) (rest : ℕ)
    → read want [] [] (tokens text) ≡ Ok (forms, later) → rest ≡ next_offset later (length text)
    → (others : List Tree) (end : ℕ) → Spelled text want others end → (others ≡ forms) × (end ≡ rest)
Spelled-unique text want forms later rest is_read behind others end spelled =
    let same : ◌≡◌ {A = Reading} (Ok (others, spelled.later)) (Ok (forms, later)) = sym (read-Spelled text want others end spelled) ∙ is_read in
    let pair : (others, spelled.later) ≡ (forms, later) = ap (result_or (forms, later)) same in
    (ap (λ r. r.0) pair, spelled.behind ∙ ap (λ r. next_offset r.1 (length text)) pair ∙ sym behind)
