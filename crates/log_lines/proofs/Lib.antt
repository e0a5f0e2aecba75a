mod Histories
mod Rows
mod Apps
mod Names
mod Whole
mod Texts
mod Reports
