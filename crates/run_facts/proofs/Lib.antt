pub mod ReportTexts
pub mod RunSaying
pub mod QuotedLines
