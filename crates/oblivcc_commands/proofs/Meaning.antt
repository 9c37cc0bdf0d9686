-- Words ask for one thing at most.
use Rattle.std.proofs.Common.{ℕ, ◌≡◌, ℤ, List, [], ◌∷◌, Option, Some, refl, sym, ap, ◌∙◌, codes, get_or, lit<}
use Rattle.std.specs.Prelude.{Contains}
use Rattle.std.specs.Option.{unwrap_or}
use Rattle.command_grammar.specs.Grammar.{Given, HasOneReading, IsCommand}
use Rattle.command_grammar.specs.Values.{list_or_none, number_or, value_of}
use Rattle.command_grammar.proofs.Fronts.{one_reading}
use Rattle.oblivcc_commands.specs.Table.{check_command, clear_command, commands, deal_command}
use Rattle.oblivcc_commands.specs.Asked.{CheckAsked, ClearAsked, DealAsked, IsCheck, IsClear, IsDeal}

check_listed : Contains commands check_command
check_listed = (0, lit< tt, refl)

clear_listed : Contains commands clear_command
clear_listed = (1, lit< tt, refl)

deal_listed : Contains commands deal_command
deal_listed = (2, lit< tt, refl)

one : HasOneReading commands
one = one_reading commands refl

-- options that are the same give one value to a name
same_value : (gs hs : List Given) (name v w : List ℕ) → gs ≡ hs → value_of gs name ≡ Some v → value_of hs name ≡ Some w → v ≡ w
same_value gs hs name v w same e f = ap (λ o. unwrap_or o v) (sym e ∙ ap (λ xs. value_of xs name) same ∙ f)

pub check_once : (ws : List (List ℕ)) (d e : CheckAsked) → IsCheck ws d → IsCheck ws e → d ≡ e
check_once ws d e p q =
    let r = one ws check_command check_command check_listed check_listed (d.file ∷ []) (e.file ∷ []) p.given q.given p.command q.command in
    ap (λ ws. asked (get_or ws 0 [])) r.1
  where
    asked : List ℕ → CheckAsked
    asked file = record { file = file }

pub clear_once : (ws : List (List ℕ)) (d e : ClearAsked) → IsClear ws d → IsClear ws e → d ≡ e
clear_once ws d e p q =
    let r = one ws clear_command clear_command clear_listed clear_listed (d.file ∷ []) (e.file ∷ []) p.given q.given p.command q.command in
    let file : d.file ≡ e.file = ap (λ ws. get_or ws 0 []) r.1 in
    let first : d.first ≡ e.first = p.first ∙ ap (λ gs. value_of gs (codes "--input1")) r.2 ∙ sym q.first in
    let second : d.second ≡ e.second = p.second ∙ ap (λ gs. value_of gs (codes "--input2")) r.2 ∙ sym q.second in
    let public : d.public ≡ e.public = p.public ∙ ap (λ gs. list_or_none (value_of gs (codes "--public"))) r.2 ∙ sym q.public in
    let steps : d.steps ≡ e.steps = p.steps ∙ ap (λ gs. number_or 1000000000 (value_of gs (codes "--steps"))) r.2 ∙ sym q.steps in
    let dealt : d.dealt ≡ e.dealt = p.dealt ∙ ap (λ gs. number_or 1048576 (value_of gs (codes "--dealt"))) r.2 ∙ sym q.dealt in
    ap (λ x. asked x d.first d.second d.public d.steps d.dealt) file ∙ ap (λ x. asked e.file x d.second d.public d.steps d.dealt) first
    ∙ ap (λ x. asked e.file e.first x d.public d.steps d.dealt) second ∙ ap (λ x. asked e.file e.first e.second x d.steps d.dealt) public
    ∙ ap (λ x. asked e.file e.first e.second e.public x d.dealt) steps ∙ ap (λ x. asked e.file e.first e.second e.public e.steps x) dealt
  where
    asked : List ℕ → Option (List ℕ) → Option (List ℕ) → List ℤ → ℕ → ℕ → ClearAsked
    asked file first second public steps dealt = record { file = file; first = first; second = second; public = public; steps = steps; dealt = dealt }

pub deal_once : (ws : List (List ℕ)) (d e : DealAsked) → IsDeal ws d → IsDeal ws e → d ≡ e
deal_once ws d e p q =
    let r = one ws deal_command deal_command deal_listed deal_listed [] [] p.given q.given p.command q.command in
    let key_word = same_value p.given q.given (codes "--key") p.key_word q.key_word r.2 p.key_given q.key_given in
    let count_word = same_value p.given q.given (codes "--count") p.count_word q.count_word r.2 p.count_given q.count_given in
    let key : d.key ≡ e.key = cc (key_word, p.key, q.key) in
    let count : d.count ≡ e.count = cc (count_word, p.count, q.count) in
    let first = same_value p.given q.given (codes "--out1") d.first e.first r.2 p.first q.first in
    let second = same_value p.given q.given (codes "--out2") d.second e.second r.2 p.second q.second in
    ap (λ x. asked x d.count d.first d.second) key ∙ ap (λ x. asked e.key x d.first d.second) count ∙ ap (λ x. asked e.key e.count x d.second) first
    ∙ ap (λ x. asked e.key e.count e.first x) second
  where
    asked : List ℕ → ℕ → List ℕ → List ℕ → DealAsked
    asked key count first second = record { key = key; count = count; first = first; second = second }

pub check_not_clear : (ws : List (List ℕ)) (d : CheckAsked) (e : ClearAsked) → IsCheck ws d → IsClear ws e → ⊥
check_not_clear ws d e p q =
    let r = one ws check_command clear_command check_listed clear_listed (d.file ∷ []) (e.file ∷ []) p.given q.given p.command q.command in
    apart (ap (λ c. c.kind) r.0)
  where
    apart : check_command.kind ≡ clear_command.kind → ⊥
    apart e = absurd cc

pub check_not_deal : (ws : List (List ℕ)) (d : CheckAsked) (e : DealAsked) → IsCheck ws d → IsDeal ws e → ⊥
check_not_deal ws d e p q =
    let r = one ws check_command deal_command check_listed deal_listed (d.file ∷ []) [] p.given q.given p.command q.command in
    apart (ap (λ c. c.kind) r.0)
  where
    apart : check_command.kind ≡ deal_command.kind → ⊥
    apart e = absurd cc

pub clear_not_deal : (ws : List (List ℕ)) (d : ClearAsked) (e : DealAsked) → IsClear ws d → IsDeal ws e → ⊥
clear_not_deal ws d e p q =
    let r = one ws clear_command deal_command clear_listed deal_listed (d.file ∷ []) [] p.given q.given p.command q.command in
    apart (ap (λ c. c.kind) r.0)
  where
    apart : clear_command.kind ≡ deal_command.kind → ⊥
    apart e = absurd cc

-- what asks for something is a command
pub check_is : (ws : List (List ℕ)) (d : CheckAsked) → IsCheck ws d → IsCommand commands ws
check_is ws d p = (check_command, check_listed, d.file ∷ [], p.given, p.command)

pub clear_is : (ws : List (List ℕ)) (d : ClearAsked) → IsClear ws d → IsCommand commands ws
clear_is ws d p = (clear_command, clear_listed, d.file ∷ [], p.given, p.command)

pub deal_is : (ws : List (List ℕ)) (d : DealAsked) → IsDeal ws d → IsCommand commands ws
deal_is ws d p = (deal_command, deal_listed, [], p.given, p.command)
