-- The invariant of the loop in `lex`, and what one iteration keeps of it.
use Rattle.std.proofs.Common.{◌≡◌, ℕ, ◌+◌, ◌≤◌, Option, List, [], ◌∷◌, ◌++◌, length, take, drop, IsUtf8, true, false, Ok, Err, refl, sym, ap, ◌∙◌, subst, arith, length-take-le, length-drop, append_assoc}
use Rattle.std.specs.List.{fold, flat_map}
use Rattle.std.specs.Str.{IsCharBoundary}
use Rattle.std.proofs.lemmas.List.{append-nil, map_push, drop-drop, flat_map_more, take-append-drop}
use Rattle.std.proofs.Math.Seq.{drop-nil, take-append_seam}
use Rattle.std.proofs.lemmas.List.Sums.{fold-append}
use Rattle.std.proofs.lemmas.List.Elements.{All-push}
use Rattle.std.proofs.lemmas.Str.{IsUtf8-drop, IsCharBoundary-from_drop, IsCharBoundary-from_rest}
use Rattle.just_text.specs.declared.token.Token.{Token}
use Rattle.just_text.specs.declared.token_kind.TokenKind.{TokenKind}
use Rattle.just_lexer.specs.declared.position.Position.{Position}
use Rattle.just_lexer.specs.declared.fault.Fault.{Fault}
use Rattle.just_lexer.specs.declared.fault.Fault.TheVariants as faults
use Rattle.just_lexer.specs.declared.mode.Open.{Open}
use Rattle.just_lexer.specs.declared.mode.Line.{Line}
use Rattle.just_lexer.specs.declared.mode.Line.TheVariants.{Begin, Start, Ahead, Inside, BodyStart, BodyLine, Over}
use Rattle.just_text.specs.declared.compile_error.CompileErrorKind.{CompileErrorKind}
use Rattle.just_text.specs.declared.compile_error.CompileErrorKind.TheVariants as kinds
use Rattle.just_text.specs.Tokens.{lexeme}
use Rattle.just_lexer.specs.Modes.{Mode, after, innermost, is_over, is_in_code, is_in_body, moved}
use Rattle.just_lexer.specs.Longest.{IsLongest}
use Rattle.just_lexer.specs.Lexes.{Piece, piece, pieces, position_of, IsTokenAt, AllTokens, Place, start, behind, Lexes}
use Rattle.just_lexer.specs.Lexed.{AllBorrow, FaultStands, HasFault, IsRefused, Reason, InCode}
use Rattle.just_lexer.specs.Lexing.{token_at, kind_of}
use Rattle.just_lexer.proofs.OnLongest.{longest_from_token, none_from_token, unique}
use Rattle.just_lexer.proofs.Ends.{going_on, over_at_end}
use Rattle.just_lexer.proofs.Faults.{reason_from_token}
use Rattle.just_lexer.proofs.Steps.{WithinSteps, moved_within, Takes, token_takes}

-- one token more
tokens_push : (p : Place) (ts : List Piece) (t : Piece) → AllTokens p ts → IsTokenAt (fold behind p ts) t → AllTokens p (ts ++ t ∷ [])
tokens_push p [] t each next = (next, tt)
tokens_push p (x ∷ ts) t each next = (each.0, tokens_push (behind p x) ts t each.1 next)

-- a front is what its length takes
front_taken : (rest text more : List ℕ) → rest ≡ text ++ more → text ≡ take (length text) rest
front_taken rest text more e = sym (take-append_seam text more) ∙ ap (take (length text)) (sym e)

one_token : (p : Place) (t u : Piece) → IsTokenAt p t → IsTokenAt p u → t ≡ u
one_token p t u a b =
    let pair : ◌≡◌ {A = TokenKind × ℕ} (t.kind, length t.text) (u.kind, length u.text) = unique p.mode.line (innermost p.mode.opened) p.rest t.kind u.kind (length t.text) (length u.text) a.longest b.longest in
    let k : t.kind ≡ u.kind = ap (λ x. x.0) pair in
    let n : length t.text ≡ length u.text = ap (λ x. x.1) pair in
    let text : t.text ≡ u.text = front_taken p.rest t.text _ a.front ∙ ap (λ x. take x p.rest) n ∙ sym (front_taken p.rest u.text _ b.front) in
    let at : t.at ≡ u.at = a.at ∙ sym b.at in
    λ i. record { kind = k i; text = text i; at = at i }

going : (p : Place) (t : Piece) → IsTokenAt p t → is_over p.mode.line ≡ false
going p t is = going_on p.mode.line (innermost p.mode.opened) p.rest t.kind (length t.text) is.longest

-- what is left of the tokens of the whole text
pub record Left (p : Place) (ts us : List Piece) : Type 0 where
  pub more : List Piece
  pub same : us ≡ ts ++ more
  pub each : AllTokens (fold behind p ts) more
  pub whole : is_over (fold behind (fold behind p ts) more).mode.line ≡ true

left_cons : (p : Place) (t u : Piece) (ts us : List Piece) → t ≡ u → Left (behind p t) ts us → Left p (t ∷ ts) (u ∷ us)
left_cons p t u ts us e l = record { more = l.more; same = cc (e, l.same); each = l.each; whole = l.whole }

left : (p : Place) (ts us : List Piece) → AllTokens p ts → AllTokens p us → is_over (fold behind p us).mode.line ≡ true → Left p ts us
left p [] us each all whole = record { more = us; same = refl; each = all; whole = whole }
left p (t ∷ ts) [] each all whole = cc (going p t each.0, whole)
left p (t ∷ ts) (u ∷ us) each all whole =
    let e : t ≡ u = one_token p t u each.0 all.0 in
    let all_t : AllTokens (behind p t) us = subst (λ x. AllTokens (behind p x) us) (sym e) all.1 in
    let whole_t : is_over (fold behind (behind p t) us).mode.line ≡ true = subst (λ (x : Piece). is_over (fold behind (behind p x) us).mode.line ≡ true) (sym e) whole in
    left_cons p t u ts us e (left (behind p t) ts us each.1 all_t whole_t)

no_more_at_end : (p : Place) (more : List Piece) → is_over p.mode.line ≡ true → AllTokens p more → more ≡ []
no_more_at_end p [] e each = refl
no_more_at_end p (t ∷ more) e each = cc (going p t each.0, e)

-- at the end these are all
pub these_are_all : (text : List ℕ) (ts us : List Piece) → AllTokens (start text) ts → is_over (fold behind (start text) ts).mode.line ≡ true → Lexes text us → ts ≡ us
these_are_all text ts us each over all =
    let l = left (start text) ts us each all.each all.whole in
    let none_left = no_more_at_end _ l.more over l.each in
    sym (l.same ∙ ap (λ m. ts ++ m) none_left ∙ append-nil ts)

stuck : (p : Place) (more : List Piece) → is_over p.mode.line ≡ false → ((k : TokenKind) (n : ℕ) → IsLongest p.mode p.rest k n → ⊥) → AllTokens p more → is_over (fold behind p more).mode.line ≡ true → ⊥
stuck p [] on none_fits each whole = cc (on, whole)
stuck p (t ∷ more) on none_fits each whole = none_fits t.kind (length t.text) each.0.longest

-- position stands in src, in front of rest
pub record Stands (src : List ℕ) (position : Position) (rest : List ℕ) : Type 0 where
  pub behind : rest ≡ drop position.offset src
  pub within : position.offset + length rest ≡ length src
  pub line : position.line ≤ position.offset
  pub column : position.column ≤ position.offset

-- the tokens so far lead to the place
pub record LexedSoFar (path src : List ℕ) (ts : List Token) (mode : Mode) (position : Position) (rest : List ℕ) : Type 0 where
  pub each : AllTokens (start src) (pieces ts)
  pub place : fold behind (start src) (pieces ts) ≡ record { mode = mode; at = position; rest = rest }
  pub borrow : AllBorrow path src ts
  pub utf8 : IsUtf8 rest
  pub stands : Stands src position rest
  pub tiled : flat_map lexeme ts ++ rest ≡ src
  pub ended : is_over mode.line ≡ true → rest ≡ []

stands_next : (src : List ℕ) (position next : Position) (rest : List ℕ) (n : ℕ) → n ≤ length rest → WithinSteps position next n → Stands src position rest → Stands src next (drop n rest)
stands_next src position next rest n fits w s = record {
  behind = ap (drop n) s.behind ∙ drop-drop n position.offset src ∙ ap (λ k. drop k src) (sym w.offset);
  within = omega (arith, length-drop n rest, s.within, w.offset);
  line = omega (arith, w.line, w.offset, s.line);
  column = omega (arith, w.column, w.offset, s.column);
}

-- a place in the text may be cut at
pub begins : (src : List ℕ) (position : Position) (rest : List ℕ) → IsUtf8 rest → Stands src position rest → IsCharBoundary src position.offset
begins src position rest utf8 s = IsCharBoundary-from_drop src position.offset (omega (arith, s.within)) (subst IsUtf8 s.behind utf8)

-- a fault isn't for want of memory
fault_claims : (path src : List ℕ) (f : Fault) (rest : List ℕ) (t : Token) → IsRefused path src (kind_of f rest) t → FaultStands path src (kind_of f rest) t
fault_claims path src faults.UnknownStart rest t r = r
fault_claims path src (faults.Alone c) rest t r = r
fault_claims path src faults.UnclosedString rest t r = r
fault_claims path src faults.UnclosedCommand rest t r = r
fault_claims path src faults.UnclosedInterpolation rest t r = r
fault_claims path src faults.Escape rest t r = r
fault_claims path src (faults.Mismatched opener closer) rest t r = r
fault_claims path src (faults.Unexpected closer) rest t r = r
fault_claims path src faults.UnpairedReturn rest t r = r
fault_claims path src faults.MixedIndentation rest t r = r
fault_claims path src faults.OtherIndentation rest t r = r

module _ {path src : List ℕ} {ts : List Token} {mode : Mode} {position : Position} {rest : List ℕ} (before : LexedSoFar path src ts mode position rest) where
  here : Place
  here = record { mode = mode; at = position; rest = rest }

  pub at_boundary : IsCharBoundary src position.offset
  at_boundary = begins src position rest before.utf8 before.stands

  -- at the end the lexemes are the text
  pub tiles : is_over mode.line ≡ true → flat_map lexeme ts ≡ src
  tiles over = sym (ap (λ r. flat_map lexeme ts ++ r) (before.ended over) ∙ append-nil (flat_map lexeme ts)) ∙ before.tiled

  pub all_lexed : is_over mode.line ≡ true → Lexes src (pieces ts)
  all_lexed over = record { each = before.each; whole = ap (λ (p : Place). is_over p.mode.line) before.place ∙ over }

  pub only_these : is_over mode.line ≡ true → (us : List Piece) → Lexes src us → pieces ts ≡ us
  only_these over us all = these_are_all src (pieces ts) us before.each (ap (λ (p : Place). is_over p.mode.line) before.place ∙ over) all

  module _ (k : TokenKind) (n : ℕ) (on : is_over mode.line ≡ false) (found : token_at mode.line (innermost mode.opened) rest ≡ Ok (k, n)) where
    pub takes : Takes mode.line (innermost mode.opened) rest k n
    takes = token_takes mode.line (innermost mode.opened) rest k n before.utf8 on found

    pub ends : IsCharBoundary src (position.offset + n)
    ends = IsCharBoundary-from_rest src position.offset n (omega (arith, before.stands.within)) (subst (λ r. IsCharBoundary r n) before.stands.behind takes.boundary)

    len : length (take n rest) ≡ n
    len = length-take-le n rest takes.boundary.0

    next_piece : Piece
    next_piece = record { kind = k; text = take n rest; at = position }

    is_next : IsTokenAt here next_piece
    unfolding here next_piece
    is_next = record {
      at = refl;
      front = sym (ap (λ x. take n rest ++ drop x rest) len ∙ take-append-drop n rest);
      longest = subst (IsLongest mode rest k) (sym len) (longest_from_token mode.line (innermost mode.opened) rest k n on found);
    }

    next_place : behind here next_piece ≡ record { mode = after mode k (take n rest); at = moved position k (take n rest); rest = drop n rest }
    unfolding here next_piece
    next_place = λ i. record { mode = after mode k (take n rest); at = moved position k (take n rest); rest = drop (len i) rest }

    within : WithinSteps position (moved position k (take n rest)) n
    within = subst (WithinSteps position (moved position k (take n rest))) len (moved_within position k (take n rest))

    lexeme_is : (t : Token) → t.length ≡ n → position_of t ≡ position → t.src.now ≡ src → lexeme t ≡ take n rest
    lexeme_is t of_length at of_src = (λ i. take (of_length i) (drop (at i).offset (of_src i))) ∙ ap (take n) (sym before.stands.behind)

    pub lexed_next : (t : Token) → t.kind ≡ k → t.length ≡ n → position_of t ≡ position → t.path.now ≡ path → t.src.now ≡ src
        → LexedSoFar path src (ts ++ t ∷ []) (after mode k (take n rest)) (moved position k (take n rest)) (drop n rest)
    unfolding here next_piece
    lexed_next t of_kind of_length at of_path of_src =
        let text : lexeme t ≡ take n rest = lexeme_is t of_length at of_src in
        let e : piece t ≡ next_piece = λ i. record { kind = of_kind i; text = text i; at = at i } in
        let pushed : pieces (ts ++ t ∷ []) ≡ pieces ts ++ piece t ∷ [] = map_push piece ts t in
        let next : IsTokenAt (fold behind (start src) (pieces ts)) (piece t) = subst (λ q. IsTokenAt q (piece t)) (sym before.place) (subst (IsTokenAt here) (sym e) is_next) in
        record {
          each = subst (AllTokens (start src)) (sym pushed) (tokens_push (start src) (pieces ts) (piece t) before.each next);
          place = ap (fold behind (start src)) pushed ∙ fold-append behind (start src) (pieces ts) (piece t ∷ []) ∙ ap (λ q. behind q (piece t)) before.place ∙ ap (behind here) e ∙ next_place;
          borrow = All-push (λ (x : Token). (x.path.now ≡ path) × (x.src.now ≡ src)) ts t before.borrow (of_path, of_src);
          utf8 = IsUtf8-drop rest n before.utf8 takes.boundary;
          stands = stands_next src position (moved position k (take n rest)) rest n takes.boundary.0 within before.stands;
          tiled =
              ap (λ l. l ++ drop n rest) (sym (flat_map_more lexeme [] ts t)) ∙ append_assoc (flat_map lexeme ts) (lexeme t) (drop n rest) ∙ ap (λ x. flat_map lexeme ts ++ (x ++ drop n rest)) text ∙ ap (λ x. flat_map lexeme ts ++ x) (take-append-drop n rest) ∙ before.tiled;
          ended = λ over. let none_left = over_at_end mode.line (innermost mode.opened) rest k n (take n rest) on (longest_from_token mode.line (innermost mode.opened) rest k n on found) over in ap (drop n) none_left ∙ drop-nil n;
        }

  module _ (f : Fault) (on : is_over mode.line ≡ false) (found : token_at mode.line (innermost mode.opened) rest ≡ Err f) where
    none_fits : (k : TokenKind) (n : ℕ) → IsLongest mode rest k n → ⊥
    none_fits = none_from_token mode.line (innermost mode.opened) rest f on found

    -- where a token is not to be had, no list lexes the text
    pub none_lexes : (us : List Piece) → Lexes src us → ⊥
    unfolding here
    none_lexes us all =
        let l = left (start src) (pieces ts) us before.each all.each all.whole in
        let each : AllTokens here l.more = subst (λ q. AllTokens q l.more) before.place l.each in
        let whole : is_over (fold behind here l.more).mode.line ≡ true = subst (λ (q : Place). is_over (fold behind q l.more).mode.line ≡ true) before.place l.whole in
        stuck here l.more on none_fits each whole

    refused : (kind : CompileErrorKind) (t : Token) → Reason kind mode rest → position_of t ≡ position → t.length ≡ 0 → t.path.now ≡ path → t.src.now ≡ src → IsRefused path src kind t
    refused kind t reason at empty of_path of_src = record {
      fault = record {
        before = pieces ts;
        each = before.each;
        place = record { mode = mode; at = position; rest = rest };
        reached = before.place;
        here = sym at;
        none_fits = none_fits;
        reason = reason;
      };
      empty = empty;
      of_path = of_path;
      of_src = of_src;
    }

    pub refusal_stands : (kind : CompileErrorKind) (t : Token) → kind ≡ kind_of f rest → position_of t ≡ position → t.length ≡ 0 → t.path.now ≡ path → t.src.now ≡ src → FaultStands path src kind t
    refusal_stands kind t e at empty of_path of_src =
        subst (λ x. FaultStands path src x t) (sym e) (fault_claims path src f rest t (refused (kind_of f rest) t (reason_from_token mode rest f before.utf8 on found) at empty of_path of_src))

-- a text that has tokens has no fault

line_going : (line : Line) (inner : Option Open) (rest : List ℕ) → is_in_code line inner rest ≡ true → is_over line ≡ false
line_going Begin inner rest e = refl
line_going (Start may) inner rest e = refl
line_going (Ahead may) inner rest e = refl
line_going (Inside may) inner rest e = refl
line_going (BodyStart i) inner rest e = refl
line_going (BodyLine i) inner rest e = refl
line_going Over inner rest e = absurd (let f : false ≡ true = e in cc)

body_going : (line : Line) → is_in_body line ≡ true → is_over line ≡ false
body_going (BodyLine i) e = refl
body_going Over e = absurd (let f : false ≡ true = e in cc)
body_going _ e = refl

code_going : (mode : Mode) (rest : List ℕ) → InCode mode rest → is_over mode.line ≡ false
code_going mode rest e = line_going mode.line (innermost mode.opened) rest e

reason_going : (kind : CompileErrorKind) (mode : Mode) (rest : List ℕ) → Reason kind mode rest → is_over mode.line ≡ false
reason_going (kinds.UnknownStartOfToken c) mode rest r = code_going mode rest r.in_code
reason_going (kinds.UnexpectedCharacter c) mode rest r = code_going mode rest r.in_code
reason_going kinds.UnterminatedString mode rest r = code_going mode rest r.in_code
reason_going kinds.UnterminatedBacktick mode rest r = code_going mode rest r.in_code
reason_going kinds.UnterminatedInterpolation mode rest r = body_going mode.line r.in_body
reason_going (kinds.InvalidEscapeSequence escape) mode rest r = code_going mode rest r.in_code
reason_going (kinds.MismatchedClosingDelimiter opener closer) mode rest r = code_going mode rest r.in_code
reason_going (kinds.UnexpectedClosingDelimiter closer) mode rest r = code_going mode rest r.in_code
reason_going kinds.UnpairedCarriageReturn mode rest r = code_going mode rest r.in_code
reason_going kinds.MixedLeadingWhitespace mode rest r = ap is_over r.may_begin
reason_going kinds.InconsistentLeadingWhitespace mode rest r = ap is_over r.in_body
reason_going kinds.OutOfMemory mode rest r = absurd r
reason_going kinds.NumbersUsed mode rest r = absurd r
reason_going kinds.ExtraLeadingWhitespace mode rest r = absurd r
reason_going (kinds.ShellExpansion text) mode rest r = absurd r
reason_going (kinds.UnexpectedToken found) mode rest r = absurd r
reason_going kinds.ParsingRecursionDepthExceeded mode rest r = absurd r
reason_going kinds.BacktickShebang mode rest r = absurd r
reason_going (kinds.UnknownSetting name) mode rest r = absurd r
reason_going (kinds.UnknownAttribute name) mode rest r = absurd r
reason_going (kinds.AttributeArgumentCount name found) mode rest r = absurd r
reason_going (kinds.InvalidAttribute name item) mode rest r = absurd r
reason_going (kinds.DuplicateAttribute name) mode rest r = absurd r
reason_going (kinds.DuplicateParameter name) mode rest r = absurd r
reason_going (kinds.ParameterFollowsVariadic name) mode rest r = absurd r
reason_going (kinds.RequiredParameterFollowsDefault name) mode rest r = absurd r
reason_going (kinds.MinimumVersion required current) mode rest r = absurd r
reason_going kinds.GuardAndInfallible mode rest r = absurd r
reason_going kinds.TwoStars mode rest r = absurd r
reason_going (kinds.InvalidSetting name text) mode rest r = absurd r

pub faultless : (text : List ℕ) (ts : List Piece) (kind : CompileErrorKind) (at : Position) → Lexes text ts → HasFault text kind at → ⊥
faultless text ts kind at all h =
    let l = left (start text) h.before ts h.each all.each all.whole in
    let each : AllTokens h.place l.more = subst (λ q. AllTokens q l.more) h.reached l.each in
    let whole : is_over (fold behind h.place l.more).mode.line ≡ true = subst (λ (q : Place). is_over (fold behind q l.more).mode.line ≡ true) h.reached l.whole in
    stuck h.place l.more (reason_going kind h.place.mode h.place.rest h.reason) h.none_fits each whole
