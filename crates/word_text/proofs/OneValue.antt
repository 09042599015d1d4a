-- A word spells one value.
use Rattle.std.proofs.Common.{◌≡◌, ℕ, List, [], ◌∷◌, drop, refl, sym, ap, ◌∙◌}
use Rattle.uid_ranges.proofs.Same.{same_ends, same_uid}
use Rattle.uid_ranges.specs.declared.range.Uid.{Uid}
use Rattle.uid_ranges.specs.declared.range.UidRange.{UidRange}
use Rattle.addr_text.proofs.Families.{one_addr}
use Rattle.addr_text.proofs.Prefixes.{one_prefix}
use Rattle.prefixes.proofs.Sames.{prefix_is}
use Rattle.fwmark.specs.declared.permission.Permission.{Permission}
use Rattle.fwmark.specs.declared.permission.Permission.TheVariants.{Nothing, Network, System}
use Rattle.word_text.specs.Grammar.{Kind, Meant, What, ValueOf, Values, IsSpelled, SpellsMark, SpellsOut, SpellsRange, SpellsRanges, SpellsUid, AreSpelled, permission_text, addr, count, literal, mark, named, permission, prefix, range, ranges, uid, valued}
use Rattle.word_text.proofs.RangeLists.{no_comma, one_range_alone, ranges_cut}
use Rattle.word_text.proofs.RangeTexts.{no_dash, range_cut}
use Rattle.std.specs.Str.Parse.{digits_value}

one_uid : (text : List ℕ) (a b : Uid) → SpellsUid text a → SpellsUid text b → a ≡ b
one_uid text a b one other = same_uid a b (sym one.0.value ∙ other.0.value)

one_mark : (text : List ℕ) (a b : ℕ) → SpellsMark text a → SpellsMark text b → a ≡ b
one_mark text a b one other =
    let same : one.digits ≡ other.digits = ap (drop 2) (sym one.cut ∙ other.cut) in
    sym one.number.number.value ∙ ap (λ (t : List ℕ). digits_value 16 t) same ∙ other.number.number.value

one_range : (text : List ℕ) (a b : UidRange) → SpellsRange text a → SpellsRange text b → a ≡ b
one_range text a b one other =
    let parts = range_cut text one.first_text one.last_text b one.cut (no_dash one.first_text one.first.0.numeral.1) other in
    same_ends a b (one_uid one.first_text a.first b.first one.first parts.0) (one_uid one.last_text a.last b.last one.last parts.1)

one_ranges : (text : List ℕ) (a b : List UidRange) → SpellsRanges text a → SpellsRanges text b → a ≡ b
one_ranges text [] b one other = absurd one
one_ranges text (users ∷ []) b one other =
    let alone = one_range_alone text b (no_comma text users one) other in
    ap (λ (u : UidRange). u ∷ []) (one_range text users alone.0 one alone.2) ∙ sym alone.1
one_ranges text (users ∷ next ∷ more) b one other =
    let parts = ranges_cut text one.0 one.1 b one.2 (no_comma one.0 users one.3) other in
    let first : users ≡ parts.0 = one_range one.0 users parts.0 one.3 parts.3 in
    let rest : next ∷ more ≡ parts.1 = one_ranges one.1 (next ∷ more) parts.1 one.4 parts.4 in
    let whole : b ≡ parts.0 ∷ parts.1 = parts.2 in cc

one_permission : (a b : Permission) → permission_text a ≡ permission_text b → a ≡ b
one_permission Nothing Nothing e = refl
one_permission Nothing Network e = cc
one_permission Nothing System e = cc
one_permission Network Nothing e = cc
one_permission Network Network e = refl
one_permission Network System e = cc
one_permission System Nothing e = cc
one_permission System Network e = cc
one_permission System System e = refl

one_meant : (what : What) (text : List ℕ) (a b : Meant what) → SpellsOut what a text → SpellsOut what b text → a ≡ b
one_meant (count what) text a b one other = sym one.0.value ∙ other.0.value
one_meant (named what) text a b one other = sym one.0 ∙ other.0
one_meant permission text a b one other = one_permission a b (sym one ∙ other)
one_meant uid text a b one other = one_uid text a b one other
one_meant mark text a b one other = one_mark text a b one other
one_meant range text a b one other = one_range text a b one other
one_meant ranges text a b one other = one_ranges text a b one other
one_meant addr text a b one other = one_addr text a b one other
one_meant prefix text a b one other = let parts = one_prefix text a b one other in prefix_is a b parts.0 parts.1

pub one_value : (kind : Kind) (text : List ℕ) (a b : ValueOf kind) → IsSpelled kind a text → IsSpelled kind b text → a ≡ b
one_value (literal word) text a b one other = refl
one_value (valued what) text a b one other = one_meant what text a b one other

pub same_values : (kinds : List Kind) (a b : Values kinds) (words : List (List ℕ)) → AreSpelled kinds a words → AreSpelled kinds b words → a ≡ b
same_values [] a b words one other = refl
same_values (kind ∷ kinds) a b [] one other = absurd one
same_values (kind ∷ kinds) a b (text ∷ words) one other =
    let first : a.0 ≡ b.0 = one_value kind text a.0 b.0 one.0 other.0 in
    let rest : a.1 ≡ b.1 = same_values kinds a.1 b.1 words one.1 other.1 in
    ap (λ (v : ValueOf kind). let w : ValueOf kind × Values kinds = (v, a.1) in w) first ∙ ap (λ (vs : Values kinds). let w : ValueOf kind × Values kinds = (b.0, vs) in w) rest
