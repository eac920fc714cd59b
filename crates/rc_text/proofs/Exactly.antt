-- What is read is told by the laws of house texts.
use Rattle.std.proofs.Common.{◌≡◌, ℕ, ◌+◌, ◌≤◌, Bool, false, List, length, Result, Ok, Err, IfOk, IfErr, IsErrAnd, sym, ap, ◌∙◌, subst}
use Rattle.std.proofs.lemmas.Result.{err_from_is_err_and}
use Rattle.rc_play_spec.specs.HouseText.{HouseText as PureText, Format, plain, NamedText as PureNamed, unmarked, lines_of, text_in, IsHouseText, IsText}
use Rattle.rc_play_spec.specs.Reading.{read_in}
use Rattle.rc_play_spec.specs.TextLaws.{ReadIsText, PlainText, TextIsHouseText, LinesAreFew, IsFirstFault}
use Rattle.rc_play_spec.proofs.Fitting.{never_marks}
use Rattle.rc_text.specs.House.{text_of, house_text_seen, named_seen}
use Rattle.rc_text.specs.Gives.{Gives, IfTextFault}
use Rattle.rc_text.specs.declared.house.HouseText.{HouseText}
use Rattle.rc_text.specs.declared.house.NamedText.{NamedText}
use Rattle.rc_text.specs.declared.reading.TextFail.{TextFail}
use Rattle.rc_text.specs.declared.reading.TextFail.TheVariants.{Fault, Memory}

module _ {X : Type 0} (f : Format) (view : X → PureNamed) (bytes : List ℕ) where
  pub read_is : (r : Result X TextFail) → Gives view r (read_in f bytes) → ReadIsText → IfOk r (λ x. IsText f.named (view x))
  read_is (Ok x) gives only = (only f bytes (view x) gives).0
  read_is (Err fail) gives only = tt

  pub read_spelled : (r : Result X TextFail) → Gives view r (read_in f bytes) → ReadIsText → IfOk r (λ x. bytes ≡ text_in f (view x))
  read_spelled (Ok x) gives only = (only f bytes (view x) gives).1
  read_spelled (Err fail) gives only = tt

  pub read_few : (r : Result X TextFail) → Gives view r (read_in f bytes) → ReadIsText → LinesAreFew →
      IfOk r (λ x. length f.head + length (lines_of (view x).text) ≤ length bytes)
  read_few (Ok x) gives only few =
      subst (λ bytes. length f.head + length (lines_of (view x).text) ≤ length bytes) (sym (only f bytes (view x) gives).1) (few f (view x))
  read_few (Err fail) gives only few = tt

  pub read_fault : (r : Result X TextFail) → Gives view r (read_in f bytes) → ((n : ℕ) → read_in f bytes ≡ Err n → IsFirstFault f bytes n) →
      IfErr r (λ fail. IfTextFault fail (IsFirstFault f bytes))
  read_fault (Ok x) gives first = tt
  read_fault (Err (Fault line)) gives first = first line gives
  read_fault (Err Memory) gives first = tt

-- ---- without marks

abbrev pub plain_seen : HouseText → PureNamed
plain_seen text = unmarked (house_text_seen text)

abbrev ok : PureNamed → Result PureNamed ℕ
ok n = Ok n

same_named : (a b : PureNamed) → ok a ≡ ok b → a ≡ b
same_named a b e = cc

same_text : (a b : PureText) → ok (unmarked a) ≡ ok (unmarked b) → a ≡ b
same_text a b e = ap (λ (n : PureNamed). n.text) (same_named (unmarked a) (unmarked b) e)

pub house_is : (r : Result HouseText TextFail) (bytes : List ℕ) → Gives plain_seen r (read_in plain bytes) → ReadIsText → TextIsHouseText →
    IfOk r (λ text. IsHouseText (house_text_seen text))
house_is (Ok text) bytes gives only house = house false (plain_seen text) (only plain bytes (plain_seen text) gives).0
house_is (Err fail) bytes gives only house = tt

pub house_spelled : (r : Result HouseText TextFail) (bytes : List ℕ) → Gives plain_seen r (read_in plain bytes) → ReadIsText → PlainText →
    IfOk r (λ text. bytes ≡ text_of text)
house_spelled (Ok text) bytes gives only same = (only plain bytes (plain_seen text) gives).1 ∙ sym (same (house_text_seen text))
house_spelled (Err fail) bytes gives only same = tt

pub house_again : (r : Result HouseText TextFail) (told : PureText) → Gives plain_seen r (Ok (unmarked told)) → Gives house_text_seen r (Ok told)
house_again (Ok text) told gives = ap (λ t. Ok t) (same_text told (house_text_seen text) gives)
house_again (Err (Fault line)) told gives = absurd cc
house_again (Err Memory) told gives = tt

pub house_fails : (r : Result HouseText TextFail) (line : ℕ) → Gives plain_seen r (Err line) → Gives house_text_seen r (Err line)
house_fails (Ok text) line gives = absurd cc
house_fails (Err (Fault line')) line gives = let same : line ≡ line' = cc in ap (λ n. Err n) same
house_fails (Err Memory) line gives = tt

-- what is read without marks has none
pub no_marks_read : (named : NamedText) (bytes : List ℕ) → read_in plain bytes ≡ Ok (named_seen named) → ReadIsText →
    read_in plain bytes ≡ Ok (plain_seen named.text)
no_marks_read named bytes read only =
    read ∙ ap (λ marks. Ok (record { text = house_text_seen named.text; marks = marks })) (never_marks (named_seen named) (only plain bytes (named_seen named) read).0)

-- ---- faults of the head

-- what holds where a fault is handed on
pub hands_fault : {X A : Type 0} (view : X → A) (r : Result X TextFail) (fail : TextFail) (told : Result A ℕ) → IsErrAnd r (λ other. other ≡ fail) →
    IfTextFault fail (λ line. told ≡ Err line) → Gives view r told
hands_fault view r fail told is holds =
    let passed = err_from_is_err_and r is in
    subst (λ r. Gives view r told) (sym passed.1) (subst (λ fail. IfTextFault fail (λ line. told ≡ Err line)) (sym passed.2) holds)

pub fault_behind : {A : Type 0} (fail : TextFail) (told : Result A ℕ) (later : Bool → List (List ℕ) → Result A ℕ) (named : Bool) (more : List (List ℕ)) →
    told ≡ later named more → IfTextFault fail (λ line. (named : Bool) (more : List (List ℕ)) → later named more ≡ Err line) →
    IfTextFault fail (λ line. told ≡ Err line)
fault_behind (Fault line) told later named more e holds = e ∙ holds named more
fault_behind Memory told later named more e holds = tt
