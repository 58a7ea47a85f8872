-- What stands before the word BEGIN of a stream: its heading or imports, and its declarations.
use Rattle.std.proofs.Common.{◌≡◌, ◌∙◌, ℕ, zero, suc, ◌+◌, ◌≤◌, Bool, true, false, ◌&&◌, not, cond, List, [], ◌∷◌, ◌++◌, refl, sym, ap, append_assoc, length, drop, take, arith}
use Rattle.std.specs.List.{prefix_len}
use Rattle.std.proofs.lemmas.Bool.{false≢true}
use Rattle.std.proofs.lemmas.List.Sums.{count_by-le-length, length-filter, take_while-cons}
use Rattle.ll_grammar.specs.Derivations.{Tree, nothing, both, left, right, tokens, Derives, of_empty, of_token, of_then, of_left, of_right, of_last, of_more, of_deep, of_sub}
use Rattle.ll_grammar.specs.Grammar.{Rule, empty, token, then as followed, or, many, deep, sub, optional}
use Rattle.ll_grammar.specs.LookAhead.{member}
use Rattle.m2_base.specs.declared.kind.TokenKind.{TokenKind}
use Rattle.m2_base.specs.declared.kind.TokenKind.TheVariants as kinds
use Rattle.m2_base.specs.declared.token.Token.{Token}
use Rattle.m2_base.specs.Grammar.{grammar, a, ident, heading, declaration, definition_declaration, procedure_cut, export, imported}
use Rattle.m2_base.specs.Grammar as rules
use Rattle.m2_base.specs.KindNumbers.{kind_number}
use Rattle.stream_split.specs.Sizes.{before_begin, declared_room, is_begin, may_make_row}
use Rattle.stream_split.proofs.TypeSizes.{makers, makers_are, rows_append}

-- ** Rules without BEGIN

-- no BEGIN stands in the rule
abbrev no_begin : Rule → Bool
no_begin empty = true
no_begin (token ks) = not (member (kind_number kinds.Begin) ks)
no_begin (followed r s) = no_begin r && no_begin s
no_begin (or r s) = no_begin r && no_begin s
no_begin (many r) = no_begin r
no_begin (deep zero) = false
no_begin (deep (suc n)) = true
no_begin sub = false

-- nor in those that it goes back to
none_deep : (n : ℕ) → no_begin (rules.rule (suc n)) ≡ true
none_deep zero = refl
none_deep (suc zero) = refl
none_deep (suc (suc zero)) = refl
none_deep (suc (suc (suc zero))) = refl
none_deep (suc (suc (suc (suc n)))) = refl

both_are : (b c : Bool) → (b && c) ≡ true → (b ≡ true) × (c ≡ true)
both_are true c h = (refl, h)
both_are false c h = absurd (false≢true h)

other_word : (k : TokenKind) (ks : List ℕ) → member (kind_number k) ks ≡ true → not (member (kind_number kinds.Begin) ks) ≡ true → not (is_begin k) ≡ true
other_word kinds.Begin ks g h = absurd (false≢true (sym (ap not g) ∙ h))
other_word k ks g h = refl

before_one : (t : Token) (ts : List Token) → not (is_begin t.kind) ≡ true → before_begin (t ∷ ts) ≡ t ∷ before_begin ts
before_one t ts e = take_while-cons (λ (t : Token). not (is_begin t.kind)) t ts ∙ ap (λ b. cond b (t ∷ before_begin ts) []) e

-- what derives from such a rule stands before BEGIN whole
before_all : {r : Rule} {d : Tree Token} → Derives grammar r d → no_begin r ≡ true → (ys : List Token) → before_begin (tokens d ++ ys) ≡ tokens d ++ before_begin ys
before_all of_empty h ys = refl
before_all (of_token {ks} {t} g) h ys = before_one t ys (other_word t.kind ks g h)
before_all (of_then {r} {s} {d} {e} p q) h ys =
    ap before_begin (append_assoc (tokens d) (tokens e) ys)
    ∙ before_all p (both_are (no_begin r) (no_begin s) h).0 (tokens e ++ ys)
    ∙ ap (λ zs. tokens d ++ zs) (before_all q (both_are (no_begin r) (no_begin s) h).1 ys)
    ∙ sym (append_assoc (tokens d) (tokens e) (before_begin ys))
before_all (of_left {r} {s} p) h ys = before_all p (both_are (no_begin r) (no_begin s) h).0 ys
before_all (of_right {r} {s} p) h ys = before_all p (both_are (no_begin r) (no_begin s) h).1 ys
before_all of_last h ys = refl
before_all (of_more {r} {d} {ds} p q) h ys =
    ap before_begin (append_assoc (tokens d) (tokens ds) ys)
    ∙ before_all p h (tokens ds ++ ys)
    ∙ ap (λ zs. tokens d ++ zs) (before_all q h ys)
    ∙ sym (append_assoc (tokens d) (tokens ds) (before_begin ys))
before_all (of_deep {n = zero} p) h ys = absurd (false≢true h)
before_all (of_deep {n = suc n} p) h ys = before_all p (none_deep n) ys
before_all (of_sub p) h ys = absurd (false≢true h)

-- ** Streams

-- these tokens stand before BEGIN in those
record IsBefore (ts zs : List Token) : Type 0 where
  pub is : before_begin ts ≡ zs

before_then : {r : Rule} {d : Tree Token} {ys zs : List Token} → Derives grammar r d → no_begin r ≡ true → IsBefore ys zs → IsBefore (tokens d ++ ys) (tokens d ++ zs)
before_then {d = d} {ys = ys} p h b = record { is = before_all p h ys ∙ ap (λ zs. tokens d ++ zs) b.is }

before_last : {r : Rule} {d : Tree Token} (ys : List Token) → Derives grammar r d → no_begin r ≡ true → IsBefore (tokens d ++ ys) (tokens d ++ before_begin ys)
before_last ys p h = record { is = before_all p h ys }

block_before : {ds : Tree Token} (bs zs : List Token) → Derives grammar (many (declaration procedure_cut)) ds → IsBefore ((tokens ds ++ bs) ++ zs) (tokens ds ++ before_begin (bs ++ zs))
block_before {ds} bs zs k = record { is = ap before_begin (append_assoc (tokens ds) bs zs) ∙ before_all k refl (bs ++ zs) }

-- before BEGIN stand three tokens, and behind them these two parts in turn
pub record Stand (x y : Tree Token) (ts : List Token) : Type 0 where
  pub one : Token
  pub two : Token
  pub three : Token
  pub ahead : List Token
  pub between : List Token
  pub behind : List Token
  pub are : before_begin ts ≡ one ∷ two ∷ three ∷ (ahead ++ (tokens x ++ (between ++ (tokens y ++ behind))))

-- rows may come with the tokens of both parts
pub both_counted : {x y : Tree Token} {ts : List Token} → Stand x y ts → makers x + makers y ≤ declared_room (before_begin ts)
both_counted {x} {y} p =
    let all = ap declared_room p.are in
    let i = rows_append p.ahead (tokens x ++ (p.between ++ (tokens y ++ p.behind))) in
    let j = rows_append (tokens x) (p.between ++ (tokens y ++ p.behind)) in
    let k = rows_append p.between (tokens y ++ p.behind) in
    let l = rows_append (tokens y) p.behind in
    let m = makers_are x in
    let n = makers_are y in
    omega (arith, all, i, j, k, l, m, n)

-- in a main module its imports and its declarations
main_before : {m w i s is ds : Tree Token} (bs zs : List Token)
    → Derives grammar (optional (a kinds.Implementation)) m → Derives grammar (a kinds.Module) w → Derives grammar ident i → Derives grammar (a kinds.Semicolon) s
    → Derives grammar (many imported) is → Derives grammar (many (declaration procedure_cut)) ds
    → IsBefore (tokens m ++ (tokens w ++ (tokens i ++ (tokens s ++ (tokens is ++ ((tokens ds ++ bs) ++ zs)))))) (tokens m ++ (tokens w ++ (tokens i ++ (tokens s ++ (tokens is ++ (tokens ds ++ before_begin (bs ++ zs)))))))
main_before bs zs m w i s h k = before_then m refl (before_then w refl (before_then i refl (before_then s refl (before_then h refl (block_before bs zs k)))))

pub main_stand : {m w i s is ds : Tree Token} (bs zs : List Token)
    → Derives grammar (optional (a kinds.Implementation)) m → Derives grammar (a kinds.Module) w → Derives grammar ident i → Derives grammar (a kinds.Semicolon) s
    → Derives grammar (many imported) is → Derives grammar (many (declaration procedure_cut)) ds
    → Stand is ds (tokens m ++ (tokens w ++ (tokens i ++ (tokens s ++ (tokens is ++ ((tokens ds ++ bs) ++ zs))))))
main_stand {s = s} bs zs (of_left (of_token {t = m} pm)) (of_token {t = w} pw) (of_token {t = i} pi) ps h k =
    record {
      one = m;
      two = w;
      three = i;
      ahead = tokens s;
      between = [];
      behind = before_begin (bs ++ zs);
      are = (main_before bs zs (of_left (of_token pm)) (of_token pw) (of_token pi) ps h k).is;
    }
main_stand bs zs (of_right of_empty) (of_token {t = w} pw) (of_token {t = i} pi) (of_token {t = s} ps) h k =
    record {
      one = w;
      two = i;
      three = s;
      ahead = [];
      between = [];
      behind = before_begin (bs ++ zs);
      are = (main_before bs zs (of_right of_empty) (of_token pw) (of_token pi) (of_token ps) h k).is;
    }

-- so in a definition module
definition_before : {f w i s is x ds : Tree Token} (zs : List Token)
    → Derives grammar (a kinds.Definition) f → Derives grammar (a kinds.Module) w → Derives grammar ident i → Derives grammar (a kinds.Semicolon) s
    → Derives grammar (many imported) is → Derives grammar export x → Derives grammar (many definition_declaration) ds
    → IsBefore (tokens f ++ (tokens w ++ (tokens i ++ (tokens s ++ (tokens is ++ (tokens x ++ (tokens ds ++ zs))))))) (tokens f ++ (tokens w ++ (tokens i ++ (tokens s ++ (tokens is ++ (tokens x ++ (tokens ds ++ before_begin zs)))))))
definition_before zs f w i s h x k = before_then f refl (before_then w refl (before_then i refl (before_then s refl (before_then h refl (before_then x refl (before_last zs k refl))))))

pub definition_stand : {f w i s is x ds : Tree Token} (zs : List Token)
    → Derives grammar (a kinds.Definition) f → Derives grammar (a kinds.Module) w → Derives grammar ident i → Derives grammar (a kinds.Semicolon) s
    → Derives grammar (many imported) is → Derives grammar export x → Derives grammar (many definition_declaration) ds
    → Stand is ds (tokens f ++ (tokens w ++ (tokens i ++ (tokens s ++ (tokens is ++ (tokens x ++ (tokens ds ++ zs)))))))
definition_stand {s = s} {x = x} zs (of_token {t = f} pf) (of_token {t = w} pw) (of_token {t = i} pi) ps h px k =
    record {
      one = f;
      two = w;
      three = i;
      ahead = tokens s;
      between = tokens x;
      behind = before_begin zs;
      are = (definition_before zs (of_token pf) (of_token pw) (of_token pi) ps h px k).is;
    }

-- in a procedure what stands behind the bracket of its parameters, and its declarations
procedure_before : {h s ds : Tree Token} (bs zs : List Token) → Derives grammar heading h → Derives grammar (a kinds.Semicolon) s → Derives grammar (many (declaration procedure_cut)) ds
    → IsBefore (tokens h ++ (tokens s ++ ((tokens ds ++ bs) ++ zs))) (tokens h ++ (tokens s ++ (tokens ds ++ before_begin (bs ++ zs))))
procedure_before bs zs h s k = before_then h refl (before_then s refl (block_before bs zs k))

pub procedure_stand : {p i o c s ds : Tree Token} (bs zs : List Token) → Derives grammar heading (both p (both i (left (both o c)))) → Derives grammar (a kinds.Semicolon) s
    → Derives grammar (many (declaration procedure_cut)) ds → Stand c ds ((tokens p ++ (tokens i ++ (tokens o ++ tokens c))) ++ (tokens s ++ ((tokens ds ++ bs) ++ zs)))
procedure_stand {s = s} bs zs (of_then (of_token {t = p} pp) (of_then (of_token {t = i} pi) (of_left (of_then (of_token {t = o} po) pc)))) ps k =
    record {
      one = p;
      two = i;
      three = o;
      ahead = [];
      between = tokens s;
      behind = before_begin (bs ++ zs);
      are = (procedure_before bs zs (of_then (of_token pp) (of_then (of_token pi) (of_left (of_then (of_token po) pc)))) ps k).is;
    }

-- in one without parameters its declarations
pub lone_stand : {p i s ds : Tree Token} (bs zs : List Token) → Derives grammar heading (both p (both i (right nothing))) → Derives grammar (a kinds.Semicolon) s
    → Derives grammar (many (declaration procedure_cut)) ds → Stand nothing ds ((tokens p ++ (tokens i ++ [])) ++ (tokens s ++ ((tokens ds ++ bs) ++ zs)))
lone_stand bs zs (of_then (of_token {t = p} pp) (of_then (of_token {t = i} pi) (of_right of_empty))) (of_token {t = s} ps) k =
    record {
      one = p;
      two = i;
      three = s;
      ahead = [];
      between = [];
      behind = before_begin (bs ++ zs);
      are = (procedure_before bs zs (of_then (of_token pp) (of_then (of_token pi) (of_right of_empty))) (of_token ps) k).is;
    }

-- ** How few they are

take_few : (n : ℕ) (xs : List Token) → length (take n xs) ≤ length xs
take_few zero xs = omega arith
take_few (suc n) [] = omega arith
take_few (suc n) (x ∷ xs) = let i = take_few n xs in omega (arith, i)

drop_few : (n : ℕ) (xs : List Token) → length (drop n xs) ≤ length xs
drop_few zero xs = omega arith
drop_few (suc n) [] = omega arith
drop_few (suc n) (x ∷ xs) = let i = drop_few n xs in omega (arith, i)

-- rows come with no more tokens than a stream has
pub rows_few : (ts : List Token) → declared_room (before_begin ts) ≤ length ts
rows_few ts =
    let first = take_few (prefix_len (λ (t : Token). not (is_begin t.kind)) ts) ts in
    let behind = drop_few 3 (before_begin ts) in
    let those = length-filter (λ (t : Token). may_make_row t.kind) (drop 3 (before_begin ts)) in
    let few = count_by-le-length (λ (t : Token). may_make_row t.kind) (drop 3 (before_begin ts)) in
    omega (arith, first, behind, those, few)
