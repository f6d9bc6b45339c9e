-- Document 01's starred examples, as one statement. The first row is L's. The next ones say that each dictionary is accepted, with its number of lines.
-- Each other row starts at the empty book, loads a dictionary, cuts a sentence into an area of as many places as there are tokens, and says each token's
-- start and end in characters, in bytes and in UTF-16 code units.
-- Texts are bytes, with what they read above them. Proof: `proofs/Examples.antt`.
-- Assumes nothing.
use Rattle.std.specs.Prelude.{ℕ, ◌/◌, List, [], ◌∷◌, ◌++◌, ◌≡◌, length, replicate, Ok}
use Rattle.score.specs.Logarithm.{StarredLogarithms}
use Rattle.book.specs.Returns.{Book, empty_book}
use Rattle.book.specs.Enter.{LoadAnswer, load_answer, load_of}
use Rattle.cuts.specs.declared.Token.{Token}
use Rattle.cuts.specs.Tokens.{numbers_of, token_width}
use Rattle.cuts.specs.Cuts.{CutAnswer, answer, cut_of, cut_all_of, cut_for_search_of}

-- a dictionary's text is loaded into the empty book of 1 root entry, 64 slots and 16 records
abbrev pub load : List ℕ → LoadAnswer
load text = load_of (empty_book 1 64 16) text

abbrev pub loaded : List ℕ → Book
loaded text = (load text).book

-- it is accepted: 0, and so many lines read
abbrev pub Accepted : List ℕ → ℕ → Type 0
Accepted text lines = load text ≡ load_answer (Ok tt) lines (loaded text)

-- 0, the tokens' count, and the token area: these numbers
abbrev pub all_tokens : List ℕ → CutAnswer
all_tokens numbers = answer (Ok tt) (record { count = length numbers / token_width; area = numbers })

-- a token's numbers: character start and end, byte start and end, UTF-16 start and end
abbrev pub token : ℕ → ℕ → ℕ → ℕ → ℕ → ℕ → List ℕ
token c d b e u v = c ∷ d ∷ b ∷ e ∷ u ∷ v ∷ []

-- the order in which a token's numbers stand, whatever they are
abbrev pub InOrder : Type 0
InOrder =
    (c d b e u v : ℕ)
    → numbers_of (record { chars = record { 0 = c; 1 = d }; bytes = record { 0 = b; 1 = e }; utf16 = record { 0 = u; 1 = v } }) ≡ token c d b e u v

-- a token takes as many places of the token area as it has numbers
abbrev pub AsManyNumbers : Type 0
AsManyNumbers = (t : Token) → length (numbers_of t) ≡ token_width

-- with places for 16 characters and 16 edges
abbrev pub Cut : List ℕ → List ℕ → List ℕ → Type 0
Cut text sentence numbers = cut_of (loaded text) 16 16 (replicate (length numbers) 0) sentence ≡ all_tokens numbers

abbrev pub CutAll : List ℕ → List ℕ → List ℕ → Type 0
CutAll text sentence numbers = cut_all_of (loaded text) 16 (replicate (length numbers) 0) sentence ≡ all_tokens numbers

abbrev pub CutForSearch : List ℕ → List ℕ → List ℕ → Type 0
CutForSearch text sentence numbers = cut_for_search_of (loaded text) 16 16 (replicate (length numbers) 0) sentence ≡ all_tokens numbers

-- book A: 打开 256, 开灯 256, 打 64, 开 64, 灯 128, 客厅 128, 客厅灯 64, 厅灯 64
abbrev pub book_a : List ℕ
book_a =
    230 ∷ 137 ∷ 147 ∷ 229 ∷ 188 ∷ 128 ∷ 32 ∷ 50 ∷ 53 ∷ 54 ∷ 10 ∷
    229 ∷ 188 ∷ 128 ∷ 231 ∷ 129 ∷ 175 ∷ 32 ∷ 50 ∷ 53 ∷ 54 ∷ 10 ∷
    230 ∷ 137 ∷ 147 ∷ 32 ∷ 54 ∷ 52 ∷ 10 ∷
    229 ∷ 188 ∷ 128 ∷ 32 ∷ 54 ∷ 52 ∷ 10 ∷
    231 ∷ 129 ∷ 175 ∷ 32 ∷ 49 ∷ 50 ∷ 56 ∷ 10 ∷
    229 ∷ 174 ∷ 162 ∷ 229 ∷ 142 ∷ 133 ∷ 32 ∷ 49 ∷ 50 ∷ 56 ∷ 10 ∷
    229 ∷ 174 ∷ 162 ∷ 229 ∷ 142 ∷ 133 ∷ 231 ∷ 129 ∷ 175 ∷ 32 ∷ 54 ∷ 52 ∷ 10 ∷
    229 ∷ 142 ∷ 133 ∷ 231 ∷ 129 ∷ 175 ∷ 32 ∷ 54 ∷ 52 ∷ 10 ∷ []

-- 甲 16, 乙 16, 甲乙 4, 丙 28
abbrev pub tie : List ℕ
tie =
    231 ∷ 148 ∷ 178 ∷ 32 ∷ 49 ∷ 54 ∷ 10 ∷
    228 ∷ 185 ∷ 153 ∷ 32 ∷ 49 ∷ 54 ∷ 10 ∷
    231 ∷ 148 ∷ 178 ∷ 228 ∷ 185 ∷ 153 ∷ 32 ∷ 52 ∷ 10 ∷
    228 ∷ 184 ∷ 153 ∷ 32 ∷ 50 ∷ 56 ∷ 10 ∷ []

-- 甲 16, 乙 16, 甲乙 3, 丙 29
abbrev pub no_tie : List ℕ
no_tie =
    231 ∷ 148 ∷ 178 ∷ 32 ∷ 49 ∷ 54 ∷ 10 ∷
    228 ∷ 185 ∷ 153 ∷ 32 ∷ 49 ∷ 54 ∷ 10 ∷
    231 ∷ 148 ∷ 178 ∷ 228 ∷ 185 ∷ 153 ∷ 32 ∷ 51 ∷ 10 ∷
    228 ∷ 184 ∷ 153 ∷ 32 ∷ 50 ∷ 57 ∷ 10 ∷ []

-- 甲 0, 甲乙 0
abbrev pub total_zero : List ℕ
total_zero =
    231 ∷ 148 ∷ 178 ∷ 32 ∷ 48 ∷ 10 ∷
    231 ∷ 148 ∷ 178 ∷ 228 ∷ 185 ∷ 153 ∷ 32 ∷ 48 ∷ 10 ∷ []

-- the same with 丙 1
abbrev pub total_one : List ℕ
total_one =
    231 ∷ 148 ∷ 178 ∷ 32 ∷ 48 ∷ 10 ∷
    231 ∷ 148 ∷ 178 ∷ 228 ∷ 185 ∷ 153 ∷ 32 ∷ 48 ∷ 10 ∷
    228 ∷ 184 ∷ 153 ∷ 32 ∷ 49 ∷ 10 ∷ []

-- WES 1, WES-5.4.5 1
abbrev pub compounds : List ℕ
compounds =
    87 ∷ 69 ∷ 83 ∷ 32 ∷ 49 ∷ 10 ∷
    87 ∷ 69 ∷ 83 ∷ 45 ∷ 53 ∷ 46 ∷ 52 ∷ 46 ∷ 53 ∷ 32 ∷ 49 ∷ 10 ∷ []

abbrev pub StarredExamples : Type 0
StarredExamples =
    -- L: 0 minus infinity, 1: 0, 2: 16777216, 3: 26591258, 4294967295: 536870911
    StarredLogarithms
    -- the dictionaries are accepted
    × Accepted book_a 8 × Accepted tie 4 × Accepted no_tie 4 × Accepted total_zero 2 × Accepted total_one 3 × Accepted compounds 2 × Accepted [] 0
    -- A, 打开灯: 打开 灯
    × Cut book_a (230 ∷ 137 ∷ 147 ∷ 229 ∷ 188 ∷ 128 ∷ 231 ∷ 129 ∷ 175 ∷ []) (token 0 2 0 6 0 2 ++ token 2 3 6 9 2 3)
    -- A, 打开客厅灯: 打开 客厅灯
    × Cut book_a (230 ∷ 137 ∷ 147 ∷ 229 ∷ 188 ∷ 128 ∷ 229 ∷ 174 ∷ 162 ∷ 229 ∷ 142 ∷ 133 ∷ 231 ∷ 129 ∷ 175 ∷ [])
    (token 0 2 0 6 0 2 ++ token 2 5 6 15 2 5)
    -- A, search, 打开客厅灯: 打开 客厅 厅灯 客厅灯
    × CutForSearch book_a (230 ∷ 137 ∷ 147 ∷ 229 ∷ 188 ∷ 128 ∷ 229 ∷ 174 ∷ 162 ∷ 229 ∷ 142 ∷ 133 ∷ 231 ∷ 129 ∷ 175 ∷ [])
    (token 0 2 0 6 0 2 ++ token 2 4 6 12 2 4 ++ token 3 5 9 15 3 5 ++ token 2 5 6 15 2 5)
    -- A, all, 打开客厅灯: 打 打开 开 客厅 客厅灯 厅灯 灯
    × CutAll book_a (230 ∷ 137 ∷ 147 ∷ 229 ∷ 188 ∷ 128 ∷ 229 ∷ 174 ∷ 162 ∷ 229 ∷ 142 ∷ 133 ∷ 231 ∷ 129 ∷ 175 ∷ [])
    (token 0 1 0 3 0 1 ++ token 0 2 0 6 0 2 ++ token 1 2 3 6 1 2 ++ token 2 4 6 12 2 4 ++ token 2 5 6 15 2 5 ++ token 3 5 9 15 3 5 ++
    token 4 5 12 15 4 5)
    -- 甲乙, the tie: one token
    × Cut tie (231 ∷ 148 ∷ 178 ∷ 228 ∷ 185 ∷ 153 ∷ []) (token 0 2 0 6 0 2)
    -- 甲乙, no tie: two
    × Cut no_tie (231 ∷ 148 ∷ 178 ∷ 228 ∷ 185 ∷ 153 ∷ []) (token 0 1 0 3 0 1 ++ token 1 2 3 6 1 2)
    -- 甲乙, total 0: 甲 乙
    × Cut total_zero (231 ∷ 148 ∷ 178 ∷ 228 ∷ 185 ∷ 153 ∷ []) (token 0 1 0 3 0 1 ++ token 1 2 3 6 1 2)
    -- 甲乙, total 1: 甲乙
    × Cut total_one (231 ∷ 148 ∷ 178 ∷ 228 ∷ 185 ∷ 153 ∷ []) (token 0 2 0 6 0 2)
    -- WES 1, WES-5.4.5 1, search, WES-5.4.5: WES WES WES-5.4.5
    × CutForSearch compounds (87 ∷ 69 ∷ 83 ∷ 45 ∷ 53 ∷ 46 ∷ 52 ∷ 46 ∷ 53 ∷ []) (token 0 3 0 3 0 3 ++ token 0 3 0 3 0 3 ++ token 0 9 0 9 0 9)
    -- the empty book, ab-1 CR LF !: ab, -, 1, CR LF, !
    × Cut [] (97 ∷ 98 ∷ 45 ∷ 49 ∷ 13 ∷ 10 ∷ 33 ∷ [])
    (token 0 2 0 2 0 2 ++ token 2 3 2 3 2 3 ++ token 3 4 3 4 3 4 ++ token 4 6 4 6 4 6 ++ token 6 7 6 7 6 7)

-- ---- more of search, where the starred examples are silent

-- 甲乙丙丁 9, 甲乙 1, 乙丙丁 1, 丁 1
abbrev pub four_characters : List ℕ
four_characters =
    231 ∷ 148 ∷ 178 ∷ 228 ∷ 185 ∷ 153 ∷ 228 ∷ 184 ∷ 153 ∷ 228 ∷ 184 ∷ 129 ∷ 32 ∷ 57 ∷ 10 ∷
    231 ∷ 148 ∷ 178 ∷ 228 ∷ 185 ∷ 153 ∷ 32 ∷ 49 ∷ 10 ∷
    228 ∷ 185 ∷ 153 ∷ 228 ∷ 184 ∷ 153 ∷ 228 ∷ 184 ∷ 129 ∷ 32 ∷ 49 ∷ 10 ∷
    228 ∷ 184 ∷ 129 ∷ 32 ∷ 49 ∷ 10 ∷ []

-- a-bc_7.甲a 1
abbrev pub parted : List ℕ
parted = 97 ∷ 45 ∷ 98 ∷ 99 ∷ 95 ∷ 55 ∷ 46 ∷ 231 ∷ 148 ∷ 178 ∷ 97 ∷ 32 ∷ 49 ∷ 10 ∷ []

-- ab-12_甲乙 9, b- 1, -12 1
abbrev pub unlettered : List ℕ
unlettered =
    97 ∷ 98 ∷ 45 ∷ 49 ∷ 50 ∷ 95 ∷ 231 ∷ 148 ∷ 178 ∷ 228 ∷ 185 ∷ 153 ∷ 32 ∷ 57 ∷ 10 ∷
    98 ∷ 45 ∷ 32 ∷ 49 ∷ 10 ∷
    45 ∷ 49 ∷ 50 ∷ 32 ∷ 49 ∷ 10 ∷ []

abbrev pub SearchExamples : Type 0
SearchExamples =
    -- the dictionaries are accepted
    Accepted four_characters 4 × Accepted parted 1 × Accepted unlettered 3
    -- 甲乙丙丁: 甲乙, then 乙丙丁, then 甲乙丙丁
    × CutForSearch four_characters (231 ∷ 148 ∷ 178 ∷ 228 ∷ 185 ∷ 153 ∷ 228 ∷ 184 ∷ 153 ∷ 228 ∷ 184 ∷ 129 ∷ [])
    (token 0 2 0 6 0 2 ++ token 1 4 3 12 1 4 ++ token 0 4 0 12 0 4)
    -- a-bc_7.甲a: bc and 甲a, of which a counts as a letter; a is one byte, 7 has no letter; then itself
    × CutForSearch parted (97 ∷ 45 ∷ 98 ∷ 99 ∷ 95 ∷ 55 ∷ 46 ∷ 231 ∷ 148 ∷ 178 ∷ 97 ∷ [])
    (token 2 4 2 4 2 4 ++ token 7 9 7 11 7 9 ++ token 0 9 0 11 0 9)
    -- ab-12_甲乙: ab alone of its parts, since 12 has digits and 甲乙 has Han; then the word of two characters b-, the word of three -12, and itself
    × CutForSearch unlettered (97 ∷ 98 ∷ 45 ∷ 49 ∷ 50 ∷ 95 ∷ 231 ∷ 148 ∷ 178 ∷ 228 ∷ 185 ∷ 153 ∷ [])
    (token 0 2 0 2 0 2 ++ token 1 3 1 3 1 3 ++ token 2 5 2 5 2 5 ++ token 0 8 0 12 0 8)

-- ---- document 02, note 6: offsets in UTF-16, where a character takes two units

-- 𠮷甲𠮷 9, 甲𠮷 1
abbrev pub supplementary : List ℕ
supplementary =
    240 ∷ 160 ∷ 174 ∷ 183 ∷ 231 ∷ 148 ∷ 178 ∷ 240 ∷ 160 ∷ 174 ∷ 183 ∷ 32 ∷ 57 ∷ 10 ∷
    231 ∷ 148 ∷ 178 ∷ 240 ∷ 160 ∷ 174 ∷ 183 ∷ 32 ∷ 49 ∷ 10 ∷ []

-- 𠮷甲𠮷!
abbrev pub family : List ℕ
family = 240 ∷ 160 ∷ 174 ∷ 183 ∷ 231 ∷ 148 ∷ 178 ∷ 240 ∷ 160 ∷ 174 ∷ 183 ∷ 33 ∷ []

abbrev pub Utf16Examples : Type 0
Utf16Examples =
    Accepted supplementary 2
    -- 𠮷甲𠮷 and, in the next block, !
    × Cut supplementary family (token 0 3 0 11 0 5 ++ token 3 4 11 12 5 6)
    -- search: 甲𠮷, 𠮷甲𠮷, !
    × CutForSearch supplementary family (token 1 3 4 11 2 5 ++ token 0 3 0 11 0 5 ++ token 3 4 11 12 5 6)
    -- all: 𠮷甲𠮷, 甲𠮷, !
    × CutAll supplementary family (token 0 3 0 11 0 5 ++ token 1 3 4 11 2 5 ++ token 3 4 11 12 5 6)
