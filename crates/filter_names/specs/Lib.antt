pub mod StaveSetting
pub mod StaveSettingLaws
pub mod EachNamedLaws
pub mod NameVerdictLaws
pub mod EdgeNamesLaws
