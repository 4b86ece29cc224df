-- Tokens and words in plain text.
--
-- A token is a run of bytes outside comments that do not set apart: a number, a word, or what is neither. A word is a token
-- that begins with a letter, A to Z (65 to 90) or a to z (97 to 122), or with _ (95). So a letter after a digit begins no word.
-- Offsets are counted from 0.
--
--   is_letter b                  == b is the byte of a letter, or _
--   Before                      == what stands before a byte: a comment, a token that goes on, or neither
--   gap                         == neither: what sets apart, or the front of the text
--   next before b               == what stands before the byte after b
--   begins words before b       == b begins a token; where words are looked for, a word
--   first_from words before bs   == the offset of the first such byte of bs; their number, where there is none
--   first_token text             == the offset of the first token; the text's length, where there is none
--   first_word text              == the offset of the first word; the text's length, where there is none
--   token_end text               == the offset of the first byte that sets apart; the text's length, where there is none
--   byte_at text at              == the byte at offset `at`; a line feed past the end
--   mark_length text             == how many bytes of the UTF-8 mark EF BB BF the text begins with: 3, or 0
use Rattle.std.specs.Prelude.{Bool, true, false, not, cond, ◌&&◌, ◌||◌, List, [], ◌∷◌, ℕ, suc, eqb, get_or}
use Rattle.text_numbers.specs.declared.Before.{Before}
use Rattle.text_numbers.specs.declared.Before.TheVariants.{Comment, Token, Gap}
use Rattle.text_numbers.specs.Numbers.{within, ends_line, sets_apart}

unfoldable pub is_letter : ℕ → Bool
is_letter b = within 65 90 b || within 97 122 b || eqb b 95

unfoldable pub gap : Before
gap = Gap

unfoldable pub next : Before → ℕ → Before
next Comment b = cond (ends_line b) Gap Comment
next Token b = cond (eqb b 35) Comment (cond (sets_apart b) Gap Token)
next Gap b = cond (eqb b 35) Comment (cond (sets_apart b) Gap Token)

unfoldable pub begins : Bool → Before → ℕ → Bool
begins words Comment b = false
begins words Token b = false
begins words Gap b = cond words (is_letter b) (not (sets_apart b))

unfoldable pub first_from : Bool → Before → List ℕ → ℕ
first_from words before [] = 0
first_from words before (b ∷ bs) = cond (begins words before b) 0 (suc (first_from words (next before b) bs))

abbrev pub first_token : List ℕ → ℕ
first_token text = first_from false gap text

abbrev pub first_word : List ℕ → ℕ
first_word text = first_from true gap text

unfoldable pub token_end : List ℕ → ℕ
token_end [] = 0
token_end (b ∷ bs) = cond (sets_apart b) 0 (suc (token_end bs))

abbrev pub byte_at : List ℕ → ℕ → ℕ
byte_at text at = get_or text at 10

unfoldable pub mark_length : List ℕ → ℕ
mark_length text = cond (eqb (byte_at text 0) 239 && eqb (byte_at text 1) 187 && eqb (byte_at text 2) 191) 3 0
