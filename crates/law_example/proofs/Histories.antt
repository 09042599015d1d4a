-- The rules of a kernel, by what it has carried out.
use Rattle.std.proofs.Common.{◌≡◌, List, [], ◌∷◌, ◌++◌, sym, ◌∙◌, ap, map}
use Rattle.std.proofs.lemmas.List.{map-append}
use Rattle.rule_law.specs.Rules.{placed, without}
use Rattle.rule_law.specs.Plans.{Request, after}
use Rattle.rule_law.proofs.Moments.{after-append}
use Rattle.law_example.specs.Kinds.{rule_kind}
use Rattle.law_example.specs.Kernels.{request_of, rules_of}
use Rattle.law_example.specs.declared.rule.Rule.{Rule}
use Rattle.law_example.specs.declared.kernel.Entry.{Entry}
use Rattle.law_example.specs.declared.kernel.Entry.TheVariants.{Added, Deleted}

-- the rules after more requests
pub rules_of-more : (history requests : List (Request Rule)) → rules_of (history ++ requests) ≡ after rule_kind requests (rules_of history)
rules_of-more history requests = after-append rule_kind history requests []

more : (journal : List Entry) (entry : Entry) → rules_of (map request_of (journal ++ entry ∷ [])) ≡ after rule_kind (request_of entry ∷ []) (rules_of (map request_of journal))
more journal entry =
    ap (λ history. rules_of history) (map-append request_of journal (entry ∷ [])) ∙ rules_of-more (map request_of journal) (request_of entry ∷ [])

pub rules_of-added : (rules put : List Rule) (journal grown : List Entry) (rule : Rule) → rules ≡ rules_of (map request_of journal)
    → put ≡ placed rule_kind rule rules → grown ≡ journal ++ Added rule ∷ [] → put ≡ rules_of (map request_of grown)
rules_of-added rules put journal grown rule h e g =
    e ∙ (ap (λ xs. placed rule_kind rule xs) h ∙ (sym (more journal (Added rule)) ∙ ap (λ js. rules_of (map request_of js)) (sym g)))

pub rules_of-deleted : (rules left : List Rule) (journal grown : List Entry) (rule : Rule) → rules ≡ rules_of (map request_of journal)
    → left ≡ without rule_kind rule rules → grown ≡ journal ++ Deleted rule ∷ [] → left ≡ rules_of (map request_of grown)
rules_of-deleted rules left journal grown rule h e g =
    e ∙ (ap (λ xs. without rule_kind rule xs) h ∙ (sym (more journal (Deleted rule)) ∙ ap (λ js. rules_of (map request_of js)) (sym g)))
