-- The wrong rules are refuted, by computation. Assumes nothing.
use mathlib.Core.Path.{◌≡◌, refl, sym, ◌∙◌, ap}
use mathlib.Core.Bool.{Bool, true, false, false≢true}
use mathlib.Core.Option.{Option, none, some}
use lib.Dec.{eqb}
use Rattle.token.specs.Find.{is_there}
use Rattle.meaning.proofs.Everything.{everything}
use Rattle.channels.specs.Channels.{Shown, a_number, a_truth, an_auto, a_string, a_float, an_enumerator, a_reference, View, nothing, item, key_of, key_at, shown, item_of, view, if_there, called, channel}
use Rattle.channels.specs.Wrong.{shows, is_accepted, first_named, by_name, view_by_name, by_name_before, with_statements, with_others, unstated, inherited, default_before, running_on, list_goes_on, ByNameBefore, DefaultBefore, ListGoesOn}

-- Whether the first value of a channel leads to an object, or is the number 7.
unfoldable leads_or_seven : Shown → Bool
leads_or_seven (a_number n) = eqb n.amount 7
leads_or_seven (a_truth b) = false
leads_or_seven an_auto = false
leads_or_seven (a_string b) = false
leads_or_seven (a_float b) = false
leads_or_seven (an_enumerator e b) = false
leads_or_seven (a_reference o) = is_there o

unfoldable first_value : Option View → Bool
first_value none = false
first_value (some nothing) = false
first_value (some (item i us rest)) = leads_or_seven i.value

two_ways : {A : Type 0} (g : A → Bool) (a b : A) → g a ≡ true → g b ≡ false → a ≡ b → ⊥
two_ways g a b p q e = false≢true (sym q ∙ ap g (sym e) ∙ p)

pub by_name_before_refuted : ByNameBefore
unfolding everything key_of shown item_of view if_there called channel shows is_accepted first_named by_name view_by_name by_name_before leads_or_seven first_value
by_name_before_refuted = record { accepts = refl; differs = two_ways first_value _ _ refl refl }

pub default_before_refuted : DefaultBefore
unfolding everything key_of key_at shown item_of view if_there called channel shows is_accepted with_statements with_others unstated inherited default_before leads_or_seven first_value
default_before_refuted = record { accepts = refl; differs = two_ways first_value _ _ refl refl }

pub list_goes_on_refuted : ListGoesOn
unfolding everything key_of key_at shown item_of view if_there called channel shows is_accepted with_statements with_others running_on list_goes_on leads_or_seven first_value
list_goes_on_refuted = record { accepts = refl; differs = two_ways first_value _ _ refl refl }
