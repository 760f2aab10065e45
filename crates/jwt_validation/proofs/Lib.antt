pub mod ClaimRuleLemmas
pub mod ClaimsAlike
pub mod Listed
pub mod NamePlaces
pub mod OptionsFaultLemmas
pub mod RulePlaces
pub mod TextsAmong
