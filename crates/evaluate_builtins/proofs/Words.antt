-- What refusals say.
use Rattle.std.proofs.Common.{◌≡◌, ℕ, suc, ◌==◌, false, if◌then◌else◌, List, [], ◌∷◌, ◌++◌, length, map, Result, Ok, Err, IfOk, String, Global, codes, append_assoc, refl, ap, subst, ◌∙◌}
use Rattle.std.proofs.Math.Dec.{eqb-suc-suc, eqb-suc-zero}
use Rattle.std.specs.String.{string_bytes}
use Rattle.just_host.specs.Faults.{fault_text}
use Rattle.just_host.specs.declared.host.HostFault.{HostFault}
use Rattle.just_host.specs.declared.host.HostFault.TheVariants.{NotUnicode}
use Rattle.just_text.specs.Counts.{counted}
use Rattle.just_value.specs.Lists.{list_text}
use Rattle.evaluate_functions.specs.declared.fault.FunctionFault.{FunctionFault}
use Rattle.evaluate_functions.specs.Functions.{Answers}
use Rattle.meaning_dialogues.specs.Answers.{faulted}
use Rattle.meaning_dialogues.specs.Evaluation.{ticked}
use Rattle.evaluate_builtins.specs.Builtins.{not_present, untold}
use Rattle.evaluate_builtins.specs.Named.{IsNamed}
use Rattle.evaluate_builtins.proofs.Named.{refusal_named}

failed_text : (doing path text : List ℕ) → codes "I/O error " ++ (doing ++ (codes " `" ++ (path ++ (codes "`: " ++ text)))) ≡ (codes "I/O error " ++ (doing ++ (codes " " ++ (ticked path ++ codes ": ")))) ++ text
failed_text doing path text = rw (append_assoc doing _ text, append_assoc path (codes "`") (codes ": "), append_assoc path _ text) refl

-- of a path, with the fault's text at the end
pub path_refusal : (name doing path : List ℕ) (fault : HostFault) (given : FunctionFault) → Answers (Err (codes "I/O error " ++ (doing ++ (codes " `" ++ (path ++ (codes "`: " ++ fault_text fault)))))) (Err given) → IsNamed name (Err given) (Err (faulted name (codes "I/O error " ++ (doing ++ (codes " " ++ (ticked path ++ codes ": ")))) fault))
path_refusal name doing path fault given h = rw (← failed_text doing path (fault_text fault)) (refusal_named name _ given h)

unicode_text : (variable text : List ℕ) → codes "environment variable `" ++ (variable ++ (codes "` is not unicode: " ++ ticked text)) ≡ codes "environment variable " ++ (ticked variable ++ (codes " is not unicode: " ++ ticked text))
unicode_text variable text = rw (append_assoc variable (codes "`") _) refl

-- of a value that is not unicode
pub not_unicode : (variable text : List ℕ) (given : FunctionFault) → Answers (Err (codes "environment variable `" ++ (variable ++ (codes "` is not unicode: " ++ ticked text)))) (Err given) → Answers (Err (untold variable (NotUnicode text))) (Err given)
not_unicode variable text given h = subst (λ words. Answers (Err words) (Err given)) (unicode_text variable text) h

several_present : (variable other : List ℕ) (others : List (List ℕ)) → counted (codes "environment variable") (length (variable ∷ other ∷ others)) ++ (codes " " ++ (list_text (codes "and") (map ticked (variable ∷ other ∷ others)) ++ codes " not present")) ≡ not_present (variable ∷ other ∷ others)
several_present variable other others =
    let rest = codes " " ++ (list_text (codes "and") (map ticked (variable ∷ other ∷ others)) ++ codes " not present") in
    let several : (length (variable ∷ other ∷ others) == 1) ≡ false = eqb-suc-suc (suc (length others)) 0 ∙ eqb-suc-zero (length others) in
    ap (λ one. (if one then codes "environment variable" else codes "environment variable" ++ codes "s") ++ rest) several

none_present : (variables : List (List ℕ)) → (variables ≡ [] → ⊥) → counted (codes "environment variable") (length variables) ++ (codes " " ++ (list_text (codes "and") (map ticked variables) ++ codes " not present")) ≡ not_present variables
none_present [] n = absurd (n refl)
none_present (variable ∷ []) n = refl
none_present (variable ∷ other ∷ others) n = several_present variable other others

-- of variables that have no value
pub listed_is : {E : Type 0} (texts variables : List (List ℕ)) (r : Result (String Global) E) → texts ≡ variables → (variables ≡ [] → ⊥) → IfOk r (λ s. string_bytes s ≡ counted (codes "environment variable") (length texts) ++ (codes " " ++ (list_text (codes "and") (map ticked texts) ++ codes " not present"))) → IfOk r (λ s. string_bytes s ≡ not_present variables)
listed_is texts variables (Ok s) e n h = h ∙ (ap (λ ts. counted (codes "environment variable") (length ts) ++ (codes " " ++ (list_text (codes "and") (map ticked ts) ++ codes " not present"))) e ∙ none_present variables n)
listed_is texts variables (Err f) e n h = h
