-- How the code gets to the rules: each file names the rule that it is proved equal to.
pub mod LinearRules
